-- For a caller that enters kits in listing order, from a zeroed table on: what holds between two kits.
use mathlib.Core.Path.{◌≡◌, refl}
use mathlib.Core.Bool.{Bool, true, false}
use mathlib.Core.List.{List, [], ◌∷◌}
use Prim.Native.Nat.{ℕ, ◌≤◌}
use native.Mathlib.Omega.{arith}
use lib.ListN.{length}
use Rattle.ground.specs.Laid.{zeroed}
use Rattle.ground.proofs.Laws.{get_d_zeros}
use Rattle.kits.specs.Kits.{most_place, before}
use Rattle.kits.proofs.Order.{before_asymmetric}
use Rattle.nodes.specs.Nodes.{most_nodes, at, child_word, label_word, tally}
use Rattle.nodes.specs.Inner.{Sized, Shape}
use Rattle.nodes.specs.Held.{Kit}
use Rattle.nodes.proofs.Sorted.{Every, Rising, also, ahead, every_map, mem_every}
use Rattle.nodes.proofs.Rows.{climb, row_root}
use Rattle.nodes.proofs.Listing.{Earlier}
use Rattle.nodes.proofs.Empty.{zeros_sound}
use Rattle.index_insert.specs.Inner.{Enters}
use Rattle.index_append.specs.Inner.{top, LastEntered, Appendable}

-- a kit's row is not before another row
abbrev pub NotBefore : List ℕ → Kit → Type 0
NotBefore r k = before k.row r ≡ false

-- the first n nodes are used, and the kits ks come behind the row entered last, in listing order
pub record Upcoming (N : List ℕ) (n : ℕ) (last : List ℕ) (ks : List Kit) : Type 0 where
  pub entered : LastEntered N n last
  pub rises : Rising Earlier ks
  pub behind : Every (NotBefore last) ks

not_before_empty : (r : List ℕ) → before r [] ≡ false
unfolding before
not_before_empty [] = refl
not_before_empty (x ∷ r) = refl

not_back : (a b : List ℕ) → before a b ≡ true → before b a ≡ false
not_back a b h = go (before b a) refl
  where
    go : (c : Bool) → before b a ≡ c → c ≡ false
    go false e = refl
    go true e = absurd (before_asymmetric a b h e)

zeroed_last : (N : List ℕ) → Sized N → LastEntered (zeroed N) 1 []
zeroed_last N z =
    let S : Shape most_place (zeroed N) = (zeros_sound N most_place z).shape in
    record {
      packed = record {
        some = omega arith;
        few = S.sized.some_node;
        used = λ i g h. absurd (omega arith);
        free = λ i g h. get_d_zeros (length N) (at i label_word);
      };
      edge = top;
      lone = get_d_zeros (length N) (at 0 child_word);
      is = row_root (climb S);
    }

pub upcoming_start : (N : List ℕ) (ks : List Kit) → Sized N → Rising Earlier ks → Upcoming (zeroed N) 1 [] ks
upcoming_start N ks z r = record { entered = zeroed_last N z; rises = r; behind = mem_every ks (λ k m. not_before_empty k.row) }

module _ {N last : List ℕ} {n : ℕ} {k : Kit} {ks : List Kit} (U : Upcoming N n last (k ∷ ks)) where
  pub upcoming_ready : Enters most_place N 0 k.row → ((j : ℕ) → tally N j ≤ most_nodes) → Appendable N n last k.row
  upcoming_ready E few = record { enters = E; entered = U.entered; order = first_of U.behind; few = few }
    where
      first_of : {P : Kit → Type 0} → Every P (k ∷ ks) → P k
      first_of (also p e) = p

  pub upcoming_next : {M : List ℕ} {n' : ℕ} → LastEntered M n' k.row → Upcoming M n' k.row ks
  upcoming_next L = record {
    entered = L;
    rises = rest_rises U.rises;
    behind = every_map (λ (x : Kit) (e : Earlier k x). not_back k.row x.row e) (rest_earlier U.rises);
  }
    where
      rest_rises : Rising Earlier (k ∷ ks) → Rising Earlier ks
      rest_rises (ahead e s) = s

      rest_earlier : Rising Earlier (k ∷ ks) → Every (Earlier k) ks
      rest_earlier (ahead e s) = e
