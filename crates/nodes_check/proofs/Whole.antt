-- The passes together decide soundness.
use mathlib.Core.Path.{◌≡◌, refl}
use mathlib.Core.Bool.{Bool, true, false}
use mathlib.Core.List.{List}
use Prim.Native.Nat.{ℕ, ◌+◌}
use native.Mathlib.Omega.{arith}
use borrow.Author.Tests.{eqb-true, eq-eqb}
use Rattle.ground.specs.Inner.{Says, fails}
use Rattle.nodes.specs.Nodes.{child_word, tag_word, tally_word, parent, child, tally, size, tagged, nodes_length}
use Rattle.nodes.specs.Sound.{nodes_sound}
use Rattle.nodes.specs.Inner.{Sized, Used, Zero, Root, Good, Shape, Sound, Links, total}
use Rattle.nodes.proofs.Fields.{length_sized}
use Rattle.nodes.proofs.Rows.{climb, live_inside, named_pos}
use Rattle.nodes.proofs.Decided.{by_use, sound_exactly}
use Rattle.nodes.proofs.Tallies.{one_if, no_chain, local_tallies, tallies_local}
use Rattle.nodes_check.specs.Inner.{Each, Sib, Ok, Spots, Kin, chain_tags, tallied, Tallied, AllChained, Chains, Fews, Unlike}
use Rattle.nodes_check.proofs.Answers.{says_as, says_is}
use Rattle.nodes_check.proofs.Paths.{few_all}

-- a tally right by its chain, tested and as an equation
tallied_is : (N : List ℕ) (i : ℕ) → Tallied N i → tally N i ≡ one_if (tagged N i) + chain_tags N (child N i)
unfolding tallied
tallied_is N i h = eqb-true _ _ h

is_tallied : (N : List ℕ) (i : ℕ) → tally N i ≡ one_if (tagged N i) + chain_tags N (child N i) → Tallied N i
unfolding tallied
is_tallied N i h = eq-eqb _ _ h

-- of a free node too: it has no tag and no chain
free_tallied : (N : List ℕ) (i : ℕ) → Zero N i → Tallied N i
unfolding tagged total
free_tallied N i f =
    is_tallied N i (rw (f tally_word (omega arith), f tag_word (omega arith), f child_word (omega arith), no_chain N (size N)) refl)

-- where every node is right by itself, links may be followed
module _ {parts : ℕ} {N : List ℕ} (z : Sized N) (R : Root N) (P : Spots parts N) where
  abbrev ok_at : (i : ℕ) → Used N i → Ok parts N i
  ok_at i u = (P.each i u.inside).ok (named_pos R.no_label i u) u.named

  abbrev sib_at : (i : ℕ) → Used N i → Sib N i
  sib_at i u = (P.each i u.inside).sib (named_pos R.no_label i u) u.named

  pub links : Links N
  links = record {
    up = record {
      root_inside = z.some_node;
      no_parent = R.no_parent;
      no_label = R.no_label;
      no_depth = R.no_depth;
      above = λ i u h. record { inside = (ok_at i u).above; named = (ok_at i u).under.alive h };
      deeper = λ i u. (ok_at i u).under.deeper;
      rising = λ i u. (ok_at i u).under.rising;
    };
    along = record {
      no_label = R.no_label;
      goes = λ i u. (sib_at i u).sibling;
      rises = λ i u. (sib_at i u).greater;
    };
    down = λ i h. (P.each i h).head.first;
  }

  pub kin : Kin N
  kin = record { most = z.most; links = links; back = λ i h. (P.each i h).head.back; same = λ i u. (sib_at i u).same }

  passes_shape : AllChained N → Fews N → Shape parts N
  passes_shape D F = record {
    sized = z;
    root = R;
    free = λ i g n e. (P.each i n).free g e;
    good = λ i u. record {
      above = λ h. record { inside = (ok_at i u).above; named = (ok_at i u).under.alive h };
      deeper = (ok_at i u).under.deeper;
      shallow = (ok_at i u).under.shallow;
      place = (ok_at i u).under.place;
      rising = (ok_at i u).under.rising;
      few = (few_all kin (λ i u. (ok_at i u).under.shallow) F i u).few;
      sibling = (sib_at i u).sibling;
      same = (sib_at i u).same;
      greater = (sib_at i u).greater;
      chained = D.each i u;
    };
    head = λ i n. (P.each i n).head;
  }

  -- tallies that are right by each chain are the document's, once the table has its shape
  passes_sound : Chains N → Fews N → Unlike N → Sound parts N
  passes_sound C F U =
      let S : Shape parts N = passes_shape C.chained F in
      record {
        shape = S;
        leaf = λ i u c. (P.each i u.inside).leaf (named_pos R.no_label i u) u.named c;
        unlike = U.each;
        tallies = local_tallies S (λ i n. tallied_is N i (C.tallies.each i n));
      }

-- the other way round
module _ {parts : ℕ} {N : List ℕ} (So : Sound parts N) where
  abbrev S : Shape parts N
  S = So.shape

  sound_spots : Spots parts N
  sound_spots = record {
    each = λ i n. record {
      head = S.head i n;
      free = λ g e. S.free i g n e;
      ok = λ g h.
          let o : Good parts N i = S.good i (record { inside = n; named = h }) in
          record {
            above = live_inside (climb S) (parent N i) o.above;
            under =
                record { alive = λ k. (o.above k).named; deeper = o.deeper; shallow = o.shallow; place = o.place; rising = o.rising };
          };
      sib =
          λ g h. let o : Good parts N i = S.good i (record { inside = n; named = h }) in
          record { sibling = o.sibling; same = o.same; greater = o.greater };
      leaf = λ g h c. So.leaf i (record { inside = n; named = h }) c;
    };
  }

  sound_chained : AllChained N
  sound_chained = record { each = λ i u. (S.good i u).chained }

  sound_tallies : Each N (Tallied N)
  sound_tallies = record {
    each = by_use S (Tallied N)
        (is_tallied N 0 (tallies_local S So.tallies 0 (λ g. absurd (omega arith))))
        (λ i f. free_tallied N i f)
        (λ i u. is_tallied N i (tallies_local S So.tallies i (λ _. u)));
  }

  sound_fews : Fews N
  sound_fews = record { each = λ i n l. record { few = (S.good i (record { inside = n; named = l.named })).few } }

-- what each pass's answer says of the test of soundness
module _ (parts : ℕ) (N : List ℕ) (h : nodes_length N ≡ true) where
  not_sound : (Sound parts N → ⊥) → false ≡ nodes_sound parts N
  not_sound n = says_is (nodes_sound parts N) (fails n) (sound_exactly parts N h)

  pub root_refuses : (Root N → ⊥) → false ≡ nodes_sound parts N
  root_refuses n = not_sound (λ s. n s.shape.root)

  pub spots_refuse : (Spots parts N → ⊥) → false ≡ nodes_sound parts N
  spots_refuse n = not_sound (λ s. n (sound_spots s))

  pub chains_refuse : (Chains N → ⊥) → false ≡ nodes_sound parts N
  chains_refuse n = not_sound (λ s. n (record { chained = sound_chained s; tallies = sound_tallies s }))

  pub fews_refuse : (Fews N → ⊥) → false ≡ nodes_sound parts N
  fews_refuse n = not_sound (λ s. n (sound_fews s))

  pub may_follow : Root N → Spots parts N → Kin N
  may_follow R P = kin (length_sized N h) R P

  pub tags_decide : {b : Bool} → Root N → Spots parts N → Chains N → Fews N → Says (Unlike N) b → b ≡ nodes_sound parts N
  tags_decide R P C F s =
      says_is (nodes_sound parts N) (says_as s (passes_sound (length_sized N h) R P C F) (λ So. record { each = So.unlike }))
      (sound_exactly parts N h)
