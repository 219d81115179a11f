-- Seven words copied over a node's seven are laid there.
use mathlib.Core.Path.{refl}
use Rattle.index_links.proofs.Words.{words_laid}
use Rattle.index_links.proofs.put_node.Goals as goal

pub returns : goal.returns
returns c = rw c.copy_from_slice.ensures.after (words_laid c.args.nodes.now c.args.f _ refl c.requires)
