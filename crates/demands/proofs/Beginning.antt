-- Request 7: what is answered of kits that begin with a list's units.
use mathlib.Core.Path.{◌≡◌, refl, sym, ap, ◌∙◌}
use mathlib.Core.Logic.{◌↔◌, ⊎_elim}
use mathlib.Core.Bool.{Bool, true, false, cond, false≢true}
use mathlib.Core.List.Memᴰ
use mathlib.Core.List.{List, [], ◌∷◌, append-nil, Memᴰ}
use Prim.Native.Nat.{ℕ, ◌+◌}
use native.Mathlib.Omega.{arith}
use lib.ListN.{length, drop}
use Rattle.ground.specs.Lists.{order_by}
use Rattle.ground.specs.Calls.{answer, decide, done}
use Rattle.ground.specs.Tables.{Tables}
use Rattle.ground.proofs.Calls.{decide_behind}
use Rattle.kits.specs.Kits.{begins, lines_faults, list_faults, units}
use Rattle.kits.proofs.Order.{begins_front, begins_more}
use Rattle.nodes.specs.Held.{Kit, count_beginning, kits_in_order, listed}
use Rattle.nodes.proofs.Tallies.{count_all, count_in_order, count_most, count_put}
use Rattle.sheet.specs.Sheet.{Contents}
use Rattle.tables.specs.Lent.{lent_list}
use Rattle.catalogue.specs.Calls.{counting}
use Rattle.demands.specs.Beginning.{CountSays, CountAnswers, CountsNone, CountsMore, BeginsExactly, NoneBeginsExactly, EmptyCountsAll}
use Rattle.demands.specs.Model.{entered}
use Rattle.demands.proofs.Answers.{behind_tables}
use Rattle.demands.proofs.Brought.{Brought, brought}

pub count_says : CountSays
unfolding answer counting decide
count_says l T e = rw append-nil at (decide_behind (lent_list T l) [] 0 (count_beginning (units l) (listed T.nodes)) e)

module _ {T : Tables} {m : Contents} (b : Brought T m) (l : List ℕ) where
  -- the order of entry does not tell
  the_count : count_beginning (units l) (listed T.nodes) ≡ count_beginning (units l) m.kits
  the_count = ap (count_beginning (units l)) b.kits ∙ count_in_order (units l) m.kits

  pub count_answer : answer (counting l T) ≡ decide (list_faults (length m.parts) l) (count_beginning (units l) m.kits)
  unfolding answer counting lent_list
  count_answer =
      let n = the_count in
      let p = b.parts in rw (n, p) (behind_tables b (list_faults (length m.parts) l) (count_beginning (units l) m.kits))

pub count_answers : CountAnswers
count_answers a l h = count_answer (brought a h) l

------------------------------------------------------------------------
-- What is counted

pub counts_none : CountsNone
counts_none r = omega (arith, count_most r [])

-- in listing order a kit more is put at its place
pub counts_more : CountsMore
unfolding order_by
counts_more r k ks =
    sym (count_in_order r (k ∷ ks)) ∙ count_put r k (kits_in_order ks) ∙ ap (λ n. cond (begins r k.row) 1 0 + n) (count_in_order r ks)

pub begins_exactly : BeginsExactly
begins_exactly r s = (
  λ h. (drop (length r) s, begins_front r s h),
  λ h. let e = h.1 in rw e (begins_more r h.0),
)

-- by whether its row begins with the units
more_by : (r : List ℕ) (k : Kit) (ks : List Kit) (b : Bool) → begins r k.row ≡ b → count_beginning r (k ∷ ks) ≡ cond b 1 0 + count_beginning r ks
more_by r k ks b e = counts_more r k ks ∙ ap (λ (t : Bool). cond t 1 0 + count_beginning r ks) e

pub none_begins_exactly : NoneBeginsExactly
none_begins_exactly r [] = (λ _ k m. absurd (Memᴰ.not-nil m), λ _. counts_none r)
none_begins_exactly r (k ∷ ks) = go (begins r k.row) refl (none_begins_exactly r ks)
  where
    go : (b : Bool) → begins r k.row ≡ b → (count_beginning r ks ≡ 0) ↔ ((j : Kit) → Memᴰ j ks → begins r j.row ≡ false) →
        (count_beginning r (k ∷ ks) ≡ 0) ↔ ((j : Kit) → Memᴰ j (k ∷ ks) → begins r j.row ≡ false)
    go true e h =
        (λ z. absurd (omega (arith, more_by r k ks true e)), λ f. absurd (false≢true (sym (f k (Memᴰ.head refl)) ∙ e)))
    go false e h = (
      λ z j m. ⊎_elim
          (λ (w : j ≡ k). ap (λ (x : Kit). begins r x.row) w ∙ e)
          (λ i. h.0 (omega (arith, more_by r k ks false e)) j i)
          (Memᴰ.cases_cons m),
      λ f. omega (arith, more_by r k ks false e, h.1 (λ j i. f j (Memᴰ.tail i))),
    )

pub empty_counts_all : EmptyCountsAll
unfolding list_faults lines_faults decide units
empty_counts_all a h = count_answers a [] h ∙ ap done (count_all (entered a).kits)
