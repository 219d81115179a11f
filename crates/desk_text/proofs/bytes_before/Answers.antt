-- The first place that passes, or the length, counts them.
use Rattle.std.proofs.Common.{◌≡◌, ◌≤◌, Bool, ℕ, suc, ◌+◌, cond, eqb, ltb, length, List, Some, None, true, false, refl, ap, sym, ◌∙◌, arith, rules, tests}
use borrow.Author.Tests.{ltb-false}
use Rattle.std.specs.Option.{unwrap_or}
use Rattle.std.specs.List.{position_or_len}
use Rattle.std.proofs.lemmas.Iterator.{YieldsList-from_slice}
use Rattle.std.proofs.lemmas.Iterator.Search.{position_from_yields_List}
use Rattle.std.proofs.lemmas.List.Recursion.{is_position_or_len}
use Rattle.desk_text.specs.Inner.{up_to}
use Rattle.desk_text.proofs.Parted.{up_to_inside}
use Rattle.desk_text.proofs.bytes_before.Goals as goal

counts : (b : ℕ) (s : List ℕ) → up_to b s ≡ position_or_len (λ x. eqb x b) s
unfolding up_to
counts b =
    is_position_or_len (up_to b) (λ x. eqb x b) refl
    (λ x xs. ap (cond (eqb x b) 0) (let e : suc (up_to b xs) ≡ 1 + up_to b xs = omega arith in e))

or_all : (k n : ℕ) → k ≤ n → unwrap_or (cond (ltb k n) (Some k) None) n ≡ k
or_all k n h = go (ltb k n) refl
  where
    go : (t : Bool) → ltb k n ≡ t → unwrap_or (cond t (Some k) None) n ≡ k
    go true q = refl
    go false q = let l : n ≤ k = ltb-false k n q in omega arith

pub returns : goal.returns
returns c =
    let s = c.args.s.now in
    let b = c.args.b in
    let e = counts b s in
    let first = position_from_yields_List (λ x. eqb x b) _ _ c.position.result c.position.ensures.ran
    (YieldsList-from_slice s cc) (λ x v q k. search (rules, tests)) in
    c.unwrap_or.ensures ∙ ap (λ o. unwrap_or o (length s)) first
    ∙ or_all (position_or_len (λ x. eqb x b) s) (length s) (omega (arith, e, up_to_inside b s)) ∙ sym e
