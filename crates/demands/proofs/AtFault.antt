-- Request 2: the line to which a list is charged is the one that its check says, and every call that takes a list hands it on.
use mathlib.Core.Path.{◌≡◌, refl, sym, ap, subst, ◌∙◌}
use mathlib.Core.Logic.{◌↔◌, ◌⊎◌, inl, inr, ⊎_elim}
use mathlib.Core.Bool.{Bool, true, false, false≢true}
use mathlib.Core.List.{List, [], ◌∷◌, ◌++◌, append_assoc, append-nil}
use Prim.Native.Nat.{ℕ, zero, suc, ◌+◌, ◌*◌, ◌/◌, ◌%◌, ◌-◌, ◌≤◌, ◌<◌, min}
use native.Mathlib.Omega.{arith}
use lib.ListN.{length}
use lib.Seq.{take-nil}
use Rattle.ground.specs.Calls.{Case, given, Reply, done, refused, number_of, is_refused, decide, answer, set_down, set_both}
use Rattle.ground.specs.Tables.{Tables}
use Rattle.ground.proofs.Laws.{below_or}
use Rattle.ground.proofs.Calls.{first_refuses, first_passes, decide_behind}
use Rattle.register.specs.Register.{register_length, register_sound}
use Rattle.kits.specs.Kits.{most_quantity, line_value, line_faults, lines_faults, list_faults, good_list}
use Rattle.kits.proofs.Lists.{line_falls, line_beyond, line_none, line_over, line_good, check_odd, check_even}
use Rattle.kits.proofs.Good.{GoodLines, none, line, good_lines_lem, lines_good_list}
use Rattle.nodes.specs.Nodes.{nodes_length}
use Rattle.nodes.specs.Sound.{nodes_sound}
use Rattle.nodes.proofs.Lists.{zero_or}
use Rattle.nodes.proofs.Sorted as sorted
use Rattle.nodes.proofs.Sorted.{Every, also}
use Rattle.index.specs.Index.{entry_refusals, missing_refusals}
use Rattle.pages.specs.Pages.{turn_page}
use Rattle.tables.specs.Lent.{part_count, lengths, lent_both, lent_list}
use Rattle.catalogue.specs.Calls.{Call, plan_of, inserting, finding, deleting, counting, any_kit, all_kits, almost_kits, turning, writing_card}
use Rattle.demands.specs.AtFault.{first_lines, by_half, by_line, LineCharged, SomeLine, TakesList, to_insert, to_find, to_delete, to_count}
use Rattle.demands.specs.AtFault.{within_any, containing_any, within_all, containing_all, almost_all, within_page, containing_page, to_write}
use Rattle.demands.specs.AtFault.{ListExactly}
use Rattle.demands.proofs.Damaged.{Above, behind_above, tables_then, wrong}

------------------------------------------------------------------------
-- One line: it is good, or it is refused with its value

-- behind the place prev, beside n parts
record GoodLine (n prev p q : ℕ) : Type 0 where
  rises : prev < p
  known : p ≤ n
  some : 0 < q
  few : q ≤ most_quantity

record Refuses (r : Reply) (v : ℕ) : Type 0 where
  number : ℕ
  says : r ≡ refused number v

line_judged : (n prev k p q : ℕ) → GoodLine n prev p q ⊎ Refuses (decide (line_faults n prev k p q) 0) (line_value k)
line_judged n prev k p q =
    ⊎_elim
    (λ (a : prev < p). ⊎_elim
    (λ (b : n < p). inr (record { number = 5; says = sym (line_beyond n prev k p q a b) }))
    (λ (b : p ≤ n). ⊎_elim
    (λ (z : q ≡ 0). inr (record { number = 6; says = sym (line_none n prev k p q a b z) }))
    (λ (c : 0 < q). ⊎_elim
    (λ (o : most_quantity < q). inr (record { number = 6; says = sym (line_over n prev k p q a b o) }))
    (λ (d : q ≤ most_quantity). inl (record { rises = a; known = b; some = c; few = d }))
    (below_or most_quantity q))
    (zero_or q))
    (below_or n p))
    (λ (a : p ≤ prev). inr (record { number = 4; says = sym (line_falls n prev k p q a) }))
    (below_or prev p)

good_passes : (n prev k p q : ℕ) → GoodLine n prev p q → decide (line_faults n prev k p q) 0 ≡ done 0
good_passes n prev k p q g = sym (line_good n prev k p q g.rises g.known g.some g.few)

not_both : {r : Reply} {v : ℕ} → r ≡ done 0 → Refuses r v → ⊥
not_both e s = false≢true (ap is_refused (sym e ∙ s.says))

------------------------------------------------------------------------
-- The lines of a list of even length: the first that is not good is the one that is said

first_lines_on : (k p q : ℕ) (l : List ℕ) → first_lines (suc k) (p ∷ q ∷ l) ≡ p ∷ q ∷ first_lines k l
first_lines_on k p q l = let e : suc k * 2 ≡ suc (suc (k * 2)) = omega arith in rw e

module _ {n prev p q : ℕ} {l : List ℕ} where
  good_line : GoodLines n prev (p ∷ q ∷ l) → GoodLine n prev p q
  good_line (line a b c d g) = record { rises = a; known = b; some = c; few = d }

  good_behind : GoodLines n prev (p ∷ q ∷ l) → GoodLines n p l
  good_behind (line a b c d g) = g

  good_with : GoodLine n prev p q → GoodLines n p l → GoodLines n prev (p ∷ q ∷ l)
  good_with h g = line h.rises h.known h.some h.few g

module _ (n prev j p q : ℕ) (l : List ℕ) where
  line_passes_lem : {v : ℕ} → GoodLine n prev p q → Refuses (decide (lines_faults n p (suc j) l) 0) v →
      Refuses (decide (lines_faults n prev j (p ∷ q ∷ l)) 0) v
  unfolding lines_faults
  line_passes_lem g r = record {
    number = r.number;
    says = decide_behind (line_faults n prev j p q) _ 0 0 (good_passes n prev j p q g) ∙ r.says;
  }

  line_stops : {v : ℕ} → Refuses (decide (line_faults n prev j p q) 0) v → Refuses (decide (lines_faults n prev j (p ∷ q ∷ l)) 0) v
  unfolding lines_faults
  line_stops {v} r = record {
    number = r.number;
    says = sym (first_refuses (refused r.number v) (line_faults n prev j p q) _ 0 0 (sym r.says) refl);
  }

charged_lines : (n prev j k : ℕ) (l : List ℕ) → length l % 2 ≡ 0 → GoodLines n prev (first_lines k l) →
    (GoodLines n prev (first_lines (suc k) l) → ⊥) → Refuses (decide (lines_faults n prev j l) 0) (line_value (j + k))
charged_lines n prev j k [] even good bad = absurd (bad (subst (GoodLines n prev) (sym (take-nil (suc k * 2))) none))
charged_lines n prev j k (p ∷ []) even good bad = absurd (omega arith)
charged_lines n prev j zero (p ∷ q ∷ l) even good bad =
    let z : j + 0 ≡ j = omega arith in
    rw z (⊎_elim
    (λ (g : GoodLine n prev p q). absurd (bad (subst (GoodLines n prev) (sym (first_lines_on 0 p q l)) (good_with g none))))
    (λ (r : Refuses (decide (line_faults n prev j p q) 0) (line_value j)). line_stops n prev j p q l r)
    (line_judged n prev j p q))
charged_lines n prev j (suc k) (p ∷ q ∷ l) even good bad =
    let z : j + suc k ≡ suc j + k = omega arith in
    let g = subst (GoodLines n prev) (first_lines_on k p q l) good in
    rw z (line_passes_lem n prev j p q l (good_line g) (charged_lines n p (suc j) k l (omega arith) (good_behind g)
    (λ h. bad (subst (GoodLines n prev) (sym (first_lines_on (suc k) p q l)) (good_with (good_line g) h)))))

bad_charged : (n prev : ℕ) (l : List ℕ) → length l % 2 ≡ 0 → (GoodLines n prev l → ⊥) →
    (k : ℕ) × GoodLines n prev (first_lines k l) × (GoodLines n prev (first_lines (suc k) l) → ⊥)
bad_charged n prev [] even bad = absurd (bad none)
bad_charged n prev (p ∷ []) even bad = absurd (omega arith)
bad_charged n prev (p ∷ q ∷ l) even bad =
    ⊎_elim
    (λ (g : GoodLine n prev p q).
    let r = bad_charged n p l (omega arith) (λ h. bad (good_with g h)) in (
      suc r.0,
      subst (GoodLines n prev) (sym (first_lines_on r.0 p q l)) (good_with g r.1),
      λ h. r.2 (good_behind (subst (GoodLines n prev) (first_lines_on (suc r.0) p q l) h)),
    ))
    (λ (r : Refuses (decide (line_faults n prev 1 p q) 0) (line_value 1)). (
      0,
      none,
      λ h. not_both (good_passes n prev 1 p q (good_line (subst (GoodLines n prev) (first_lines_on 0 p q l) h))) r,
    ))
    (line_judged n prev 1 p q)

------------------------------------------------------------------------
-- The statements on the check of a list

bad_lines : (n : ℕ) (l : List ℕ) → good_list n l ≡ false → GoodLines n 0 l → ⊥
bad_lines n l e g = false≢true (sym e ∙ lines_good_list n l g)

lines_bad : (n : ℕ) (l : List ℕ) → (GoodLines n 0 l → ⊥) → good_list n l ≡ false
lines_bad n l f = go (good_list n l) refl
  where
    go : (b : Bool) → good_list n l ≡ b → good_list n l ≡ false
    go true e = absurd (f (good_lines_lem n l e))
    go false e = e

said_value : (j k : ℕ) → j ≡ k → line_value j ≡ min k 4294967295
unfolding line_value
said_value j k e = ap (λ x. min x 4294967295) e

-- the lines before line k + 1
line_before : (k : ℕ) (l : List ℕ) → first_lines (suc k - 1) l ≡ first_lines k l
line_before k l = let e : suc k - 1 ≡ k = omega arith in rw e

pub line_charged : LineCharged
line_charged n k l (by_half h) = (4, check_odd n l (λ e. omega arith) ∙ ap (refused 4) (said_value (length l / 2 + 1) k (omega arith)))
line_charged n zero l (by_line even good bad) = absurd (bad_lines n [] bad none)
line_charged n (suc k) l (by_line even good bad) =
    let g = good_lines_lem n (first_lines k l) (subst (λ b. good_list n b ≡ true) (line_before k l) good) in
    let r = charged_lines n 0 1 k l even g (bad_lines n (first_lines (suc k) l) bad) in
    (r.number, check_even n l even ∙ r.says ∙ ap (refused r.number) (said_value (1 + k) (suc k) (omega arith)))

pub some_line : SomeLine
some_line n l e =
    ⊎_elim
    (λ (even : length l % 2 ≡ 0).
    let r = bad_charged n 0 l even (bad_lines n l e) in
    let k = r.0 in
    let g = subst (λ b. good_list n b ≡ true) (sym (line_before k l)) (lines_good_list n (first_lines k l) r.1) in
    (suc k, by_line even g (lines_bad n (first_lines (suc k) l) r.2)))
    (λ (odd : 0 < length l % 2). (length l / 2 + 1, by_half (omega arith)))
    (zero_or (length l % 2))

------------------------------------------------------------------------
-- The refusals of a call that takes a list: the tables' 1 and 2, a tag's 8, the list's 4 to 6, and then none below 7

only_list : (ls rest : List Case) (v f u : ℕ) → 4 ≤ f → f ≤ 6 → Every (Above 6) rest →
    (decide (ls ++ rest) v ≡ refused f u) ↔ (decide ls 0 ≡ refused f u)
only_list ls rest v f u low high above = go (is_refused (decide ls 0)) refl
  where
    go : (b : Bool) → is_refused (decide ls 0) ≡ b → (decide (ls ++ rest) v ≡ refused f u) ↔ (decide ls 0 ≡ refused f u)
    go true e =
        let same : decide ls 0 ≡ decide (ls ++ rest) v = first_refuses (decide ls 0) ls rest 0 v refl e in
        (λ h. same ∙ h, λ h. sym same ∙ h)
    go false e =
        let on : decide (ls ++ rest) v ≡ decide rest v = first_passes (decide ls 0) ls rest 0 v refl e in (
          λ h. absurd
              (let s : f ≡ suc (f - 1) = omega arith in
              let z = behind_above 6 rest v (f - 1) above (ap number_of (sym on ∙ h) ∙ s) in omega arith),
          λ h. absurd (false≢true (sym e ∙ ap is_refused h)),
        )

past_tag : (untagged : Bool) (cs : List Case) (v f u : ℕ) → f ≤ 6 →
    (decide (given untagged 8 0 ∷ cs) v ≡ refused f u) ↔ ((untagged ≡ false) × (decide cs v ≡ refused f u))
unfolding decide
past_tag true cs v f u high = (λ e. absurd (let z : ◌≡◌ {A = ℕ} 8 f = ap number_of e in omega arith), λ h. wrong h.0)
past_tag false cs v f u high = (λ e. (refl, e), λ h. h.1)

past_tables : (r n s m : Bool) (cs : List Case) (v f u : ℕ) → 4 ≤ f → (decide (tables_then r n s m cs) v ≡ refused f u)
    ↔ (((r ≡ false) ⊎ (n ≡ false) → ⊥) × ((s ≡ false) ⊎ (m ≡ false) → ⊥) × (decide cs v ≡ refused f u))
unfolding decide tables_then
past_tables false n s m cs v f u low = (λ e. absurd (let z : ◌≡◌ {A = ℕ} 1 f = ap number_of e in omega arith), λ h. absurd (h.0 (inl refl)))
past_tables true false s m cs v f u low =
    (λ e. absurd (let z : ◌≡◌ {A = ℕ} 1 f = ap number_of e in omega arith), λ h. absurd (h.0 (inr refl)))
past_tables true true false m cs v f u low =
    (λ e. absurd (let z : ◌≡◌ {A = ℕ} 2 f = ap number_of e in omega arith), λ h. absurd (h.1 (inl refl)))
past_tables true true true false cs v f u low =
    (λ e. absurd (let z : ◌≡◌ {A = ℕ} 2 f = ap number_of e in omega arith), λ h. absurd (h.1 (inr refl)))
past_tables true true true true cs v f u low = (λ e. (λ x. ⊎_elim wrong wrong x, λ x. ⊎_elim wrong wrong x, e), λ h. h.2)

-- a call's refusals are these
record ByList (c : Call) (l : List ℕ) (untagged : Bool) (T : Tables) : Type 0 where
  cases : List Case
  rest : List Case
  above : Every (Above 6) rest
  parted : cases ≡ list_faults (part_count T) l ++ rest
  decided : (v : ℕ) → decide (plan_of c T).cases v ≡ decide
      (tables_then (register_length T.register) (nodes_length T.nodes) (register_sound T.register) (nodes_sound (part_count T) T.nodes)
      (given untagged 8 0 ∷ cases))
      v

by_list : (c : Call) (l : List ℕ) (untagged : Bool) (T : Tables) → TakesList l c untagged → ByList c l untagged T
unfolding decide tables_then plan_of lengths lent_both lent_list inserting entry_refusals finding deleting missing_refusals counting any_kit all_kits almost_kits
    turning turn_page set_down set_both writing_card
by_list c l untagged T (to_insert t) =
    record { cases = _; rest = _; above = also refl (also refl (also refl (also refl (also refl sorted.none)))); parted = refl; decided = λ v. refl }
by_list c l untagged T to_find = record { cases = _; rest = _; above = also refl sorted.none; parted = refl; decided = λ v. refl }
by_list c l untagged T to_delete = record { cases = _; rest = _; above = also refl sorted.none; parted = refl; decided = λ v. refl }
by_list c l untagged T to_count =
    record { cases = _; rest = []; above = sorted.none; parted = sym (append-nil (list_faults (part_count T) l)); decided = λ v. refl }
by_list c l untagged T within_any =
    record { cases = _; rest = []; above = sorted.none; parted = sym (append-nil (list_faults (part_count T) l)); decided = λ v. refl }
by_list c l untagged T containing_any =
    record { cases = _; rest = []; above = sorted.none; parted = sym (append-nil (list_faults (part_count T) l)); decided = λ v. refl }
by_list c l untagged T (within_all o) = record { cases = _; rest = _; above = also refl sorted.none; parted = refl; decided = λ v. refl }
by_list c l untagged T (containing_all o) = record { cases = _; rest = _; above = also refl sorted.none; parted = refl; decided = λ v. refl }
by_list c l untagged T (almost_all d o) = record {
  cases = _;
  rest = _;
  above = also refl (also refl sorted.none);
  parted = append_assoc (list_faults (part_count T) l) _ _;
  decided = λ v. refl;
}
by_list c l untagged T (within_page b) = record { cases = _; rest = _; above = also refl sorted.none; parted = refl; decided = λ v. refl }
by_list c l untagged T (containing_page b) = record { cases = _; rest = _; above = also refl sorted.none; parted = refl; decided = λ v. refl }
by_list c l untagged T (to_write o) = record {
  cases = _;
  rest = _;
  above = also refl (also refl sorted.none);
  parted = append_assoc (list_faults (part_count T) l) _ _;
  decided = λ v. refl;
}

pub list_exactly : ListExactly
unfolding answer
list_exactly c l untagged T f v takes low high =
    let L = by_list c l untagged T takes in
    let w = (plan_of c T).value in
    let a = past_tables _ _ _ _ _ w f v low in
    let b = past_tag untagged L.cases w f v high in
    let p = ap (λ (cs : List Case). decide cs w) L.parted in
    let d = only_list (list_faults (part_count T) l) L.rest w f v low high L.above in (
      λ e. let x = a.0 (sym (L.decided w) ∙ e) in let y = b.0 x.2 in (x.0, x.1, y.0, d.0 (sym p ∙ y.1)),
      λ h. L.decided w ∙ a.1 (h.0, h.1, b.1 (h.2, p ∙ d.1 h.3)),
    )
