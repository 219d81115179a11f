-- Where it ends: a kit struck out and entered again, computed.
use mathlib.Core.Path.{◌≡◌, refl, ap}
use mathlib.Core.List.{List}
use Prim.Native.Nat.{ℕ}
use native.Mathlib.Omega.{arith}
use lib.ListN.{get_or}
use Rattle.ground.specs.Lists.{allb, anyb, every, keep, distinct, from, first_or}
use Rattle.ground.specs.Laid.{laid}
use Rattle.kits.specs.Kits.{count}
use Rattle.nodes.specs.Nodes.{nodes_of, others_of, zero_word, is_free, is_used, used_nodes, tagged, path, row_of, chain, children, upward, is_under, tags_under}
use Rattle.nodes.specs.Sound.{root_good, parent_good, depth_good, label_good, few_equal, links_inside, child_good, next_good, on_chain, end_tagged, tags_differ}
use Rattle.nodes.specs.Sound.{tally_good, used_others, nodes_sound}
use Rattle.index_links.specs.Links.{has_label, child_with, last_below, link_to, link, unlink, node_of, recount}
use Rattle.index_insert.specs.Enter.{lowest_free, enter_below, enter}
use Rattle.index_delete.specs.Strike.{prune, strike_at, strike}
use Rattle.index_undo.specs.Inner.{behind_a_free_node, at_the_first, EnteredAgain}

pub entered_again : EnteredAgain
unfolding allb anyb every keep distinct from first_or laid count nodes_of others_of zero_word is_free is_used used_nodes tagged path row_of chain children
    upward is_under tags_under root_good parent_good depth_good label_good few_equal links_inside child_good next_good on_chain end_tagged tags_differ
    tally_good used_others nodes_sound has_label child_with last_below link_to link unlink node_of recount lowest_free enter_below enter prune strike_at
    strike
entered_again = (refl, refl, refl, λ (e : behind_a_free_node ≡ at_the_first). omega (arith, ap (λ (N : List ℕ). get_or N 1 0) e))
