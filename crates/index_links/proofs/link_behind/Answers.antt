-- The old word of the link is read first and goes into the new node, so what followed in the chain follows it.
use mathlib.Core.Path.{◌∙◌}
use native.Mathlib.Omega.{arith}
use Rattle.index_links.proofs.Words.{link_words}
use Rattle.index_links.proofs.Seeking.{link_word_inside, word_is_link}
use Rattle.index_links.proofs.link_behind.Goals as goal

pub offset_bounds-nodes-w : goal.offset_bounds-nodes-w
offset_bounds-nodes-w c = omega (arith, c.word_behind-w.ensures, link_word_inside c.requires)

pub bounds-nodes-w : goal.bounds-nodes-w
bounds-nodes-w c = omega (arith, c.word_behind-w.ensures, link_word_inside c.requires)

pub offset_bounds-nodes-w-2 : goal.offset_bounds-nodes-w-2
offset_bounds-nodes-w-2 c = omega (arith, c.word_behind-w.ensures, link_word_inside c.requires)

pub bounds-nodes-w-2 : goal.bounds-nodes-w-2
bounds-nodes-w-2 c = omega (arith, c.word_behind-w.ensures, link_word_inside c.requires)

pub returns : goal.returns
returns c =
    link_words c.args.nodes.now c.args.p c.args.l c.args.f c.word_behind-w.result c.depth_at-depth.result _
    (c.word_behind-w.ensures ∙ word_is_link c.args.nodes.now c.args.p c.args.l c.args.b c.requires.last)
    c.depth_at-depth.ensures.0 c.put_node.ensures
