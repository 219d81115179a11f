-- A used node's parent is in the table, so the link is found along its children and set to the next.
use mathlib.Core.Path.{◌∙◌, ap₂}
use Rattle.index_links.specs.Links.{link_to}
use Rattle.index_links.proofs.Words.{unlink_words}
use Rattle.index_links.proofs.unlink.Goals as goal

pub returns : goal.returns
returns c =
    unlink_words c.args.nodes.now c.args.i c.link_to-w.result c.next_at-rest.result _
    (c.link_to-w.ensures.is_link ∙ ap₂ (link_to c.args.nodes.now) c.parent_at-q.ensures.0
    c.label_at-l.ensures) c.next_at-rest.ensures.0
    c.put_node.ensures
