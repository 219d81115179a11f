-- A reply line has one letter and one number: digits spell their number, and a space ends them.
use mathlib.Core.Path.{◌≡◌, refl, sym, ap, ◌∙◌}
use mathlib.Core.List.{List, [], ◌∷◌, ◌++◌, append_assoc}
use Prim.Native.Nat.{ℕ, zero, suc, ◌+◌, ◌-◌, ◌*◌, ◌/◌, ◌%◌, ◌≤◌, ◌<◌}
use native.Mathlib.Omega.{arith}
use lib.Dec.{ltb}
use borrow.Author.Tests.{ltb-false}
use Rattle.ground.proofs.Laws.{by_cond}
use Rattle.nodes.proofs.Sorted.{Every, none, also, every_append}
use Rattle.desk_text.specs.Amounts.{zero_digit, spelt, amount_of}
use Rattle.desk_text.specs.Lines.{space, line_feed}
use Rattle.desk_replies.specs.Replies.{digits, decimal, reply_head, reply_line}
use Rattle.desk_demands.specs.Demands.{OneNumber}

spelt_append : (v : ℕ) (a b : List ℕ) → spelt v (a ++ b) ≡ spelt (spelt v a) b
unfolding spelt
spelt_append v [] b = refl
spelt_append v (x ∷ a) b = spelt_append (v * 10 + (x - zero_digit)) a b

one_digit : (v d : ℕ) → spelt v ((zero_digit + d) ∷ []) ≡ v * 10 + d
unfolding spelt
one_digit v d = omega arith

digits_spell : (k n : ℕ) → n < k → spelt 0 (digits k n) ≡ n
unfolding digits
digits_spell zero n h = absurd (omega arith)
digits_spell (suc k) n h =
    by_cond (λ (ds : List ℕ). spelt 0 ds ≡ n) (ltb n 10) ((zero_digit + n) ∷ []) (digits k (n / 10) ++ ((zero_digit + n % 10) ∷ []))
    (λ _. omega (arith, one_digit 0 n))
    (λ e.
    let g : 10 ≤ n = ltb-false n 10 e in
    let i : n / 10 < k = omega arith in
    omega (
      arith,
      spelt_append 0 (digits k (n / 10)) ((zero_digit + n % 10) ∷ []),
      one_digit (spelt 0 (digits k (n / 10))) (n % 10),
      digits_spell k (n / 10) i,
    ))

decimal_spells : (n : ℕ) → amount_of (decimal n) ≡ n
unfolding amount_of decimal
decimal_spells n = digits_spell (suc n) n (omega arith)

-- no digit is a space
abbrev NoSpace : ℕ → Type 0
NoSpace d = space < d

digits_no_space : (k n : ℕ) → Every NoSpace (digits k n)
unfolding digits
digits_no_space zero n = none
digits_no_space (suc k) n =
    by_cond (Every NoSpace) (ltb n 10) ((zero_digit + n) ∷ []) (digits k (n / 10) ++ ((zero_digit + n % 10) ∷ []))
    (λ _. also (omega arith) none) (λ _. every_append (digits_no_space k (n / 10)) (also (omega arith) none))

decimal_no_space : (n : ℕ) → Every NoSpace (decimal n)
unfolding decimal
decimal_no_space n = digits_no_space (suc n) n

up_to_space : (a c r s : List ℕ) → Every NoSpace a → Every NoSpace c → a ++ (space ∷ r) ≡ c ++ (space ∷ s) → a ≡ c
up_to_space [] [] r s none none e = refl
up_to_space [] (y ∷ c) r s none (also h hs) e = absurd (let z : space ≡ y = cc in omega arith)
up_to_space (x ∷ a) [] r s (also g gs) none e = absurd (let z : x ≡ space = cc in omega arith)
up_to_space (x ∷ a) (y ∷ c) r s (also g gs) (also h hs) e =
    let z : x ≡ y = cc in
    let t : a ++ (space ∷ r) ≡ c ++ (space ∷ s) = cc in
    let i = up_to_space a c r s gs hs t in
    cc

behind_letter_lem : (x n v : ℕ) (rest : List ℕ) →
    reply_line x n v rest ≡ x ∷ space ∷ (decimal n ++ (space ∷ (decimal v ++ (rest ++ (line_feed ∷ [])))))
unfolding reply_line reply_head
behind_letter_lem x n v rest = ap (λ (l : List ℕ). x ∷ space ∷ l) (append_assoc (decimal n) (space ∷ decimal v) (rest ++ (line_feed ∷ [])))

pub one_number : OneNumber
one_number x n v rest x' n' v' rest' e =
    let r = decimal v ++ (rest ++ (line_feed ∷ [])) in
    let r' = decimal v' ++ (rest' ++ (line_feed ∷ [])) in
    let f : x ∷ space ∷ (decimal n ++ (space ∷ r)) ≡ x' ∷ space ∷ (decimal n' ++ (space ∷ r')) =
    sym (behind_letter_lem x n v rest) ∙ e ∙ behind_letter_lem x' n' v' rest' in
    let g : x ≡ x' = cc in
    let h : decimal n ++ (space ∷ r) ≡ decimal n' ++ (space ∷ r') = cc in
    let i = up_to_space (decimal n) (decimal n') r r' (decimal_no_space n) (decimal_no_space n') h in
    (g, sym (decimal_spells n) ∙ ap amount_of i ∙ decimal_spells n')
