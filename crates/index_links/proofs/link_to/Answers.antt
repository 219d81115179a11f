-- The link stands behind the last child with a label below l.
use mathlib.Core.Path.{◌∙◌}
use native.Mathlib.Omega.{arith}
use Rattle.index_links.proofs.Seeking.{word_inside, word_is_link}
use Rattle.index_links.proofs.link_to.Goals as goal

pub returns : goal.returns
returns c =
    record {
      is_link = c.word_behind.ensures ∙ word_is_link c.args.nodes.now c.args.p c.args.l c.last_below-b.result
          c.last_below-b.ensures.is_last;
      inside = omega (
        arith,
        c.word_behind.ensures,
        word_inside c.args.nodes.now c.args.p c.last_below-b.result c.requires.inside
            c.last_below-b.ensures.inside,
      );
    }
