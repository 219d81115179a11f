-- The laws of answers: a number tells whether a call is done; and number and value tell the answer, every case of it and what it carries.
use mathlib.Core.Path.{◌≡◌, refl, ap, sym, ◌∙◌}
use mathlib.Core.Bool.{true}
use mathlib.Core.Logic.{◌⊎◌, inl, inr}
use mathlib.Core.List.{List, [], ◌∷◌}
use Prim.Native.Nat.{ℕ, ◌<◌}
use lib.ListN.{get_or}
use native.Mathlib.Omega.{arith}
use Rattle.ground.specs.Calls.{Reply, done, refused, is_refused, number_of, value_of}
use Rattle.std.specs.Prelude.{Result, Ok, Err, IsErrAnd}
use Rattle.std.proofs.lemmas.Result.{err_from_is_err_and}
use Rattle.answers.specs.declared.Refusal.{Refusal}
use Rattle.answers.specs.declared.Refusal.TheVariants as v
use Rattle.answers.specs.Answers.{Answer, refusal, reply, checked}

-- what is read from the reply of an answer, where a match has named its case
pub case_says : {A : Type 0} (f : Reply → A) {a b : Answer} → a ≡ b → f (reply b) ≡ f (reply a)
case_says f e = sym (ap (λ a. f (reply a)) e)

pub done_or_refused : (a : Answer) →
    (reply a ≡ done (value_of (reply a))) ⊎ ((0 < number_of (reply a)) × (reply a ≡ refused (number_of (reply a)) (value_of (reply a))))
done_or_refused (Ok x) = inl refl
done_or_refused (Err v.WrongLength) = inr (omega arith, refl)
done_or_refused (Err v.NotSound) = inr (omega arith, refl)
done_or_refused (Err v.BadNumber) = inr (omega arith, refl)
done_or_refused (Err (v.Unordered x)) = inr (omega arith, refl)
done_or_refused (Err (v.Unregistered x)) = inr (omega arith, refl)
done_or_refused (Err (v.Amount x)) = inr (omega arith, refl)
done_or_refused (Err v.TooMany) = inr (omega arith, refl)
done_or_refused (Err v.NoTag) = inr (omega arith, refl)
done_or_refused (Err (v.Held x)) = inr (omega arith, refl)
done_or_refused (Err v.TagBorne) = inr (omega arith, refl)
done_or_refused (Err (v.NotHeld x)) = inr (omega arith, refl)
done_or_refused (Err (v.NoRoom x)) = inr (omega arith, refl)
done_or_refused (Err (v.Fault x)) = inr (omega arith, refl)
done_or_refused (Err v.TooFar) = inr (omega arith, refl)
done_or_refused (Err v.BadBookmark) = inr (omega arith, refl)
done_or_refused (Err v.Punctuated) = inr (omega arith, refl)
done_or_refused (Err v.NoUnits) = inr (omega arith, refl)

-- the answers in the order of their numbers, each with the value x where it carries one; no answer has the number 17 or 18, and
-- `TooFar` stands there
in_order : ℕ → List Answer
in_order x =
    Ok x
    ∷ Err v.WrongLength
    ∷ Err v.NotSound
    ∷ Err v.BadNumber
    ∷ Err (v.Unordered x)
    ∷ Err (v.Unregistered x)
    ∷ Err (v.Amount x)
    ∷ Err v.TooMany
    ∷ Err v.NoTag
    ∷ Err (v.Held x)
    ∷ Err v.TagBorne
    ∷ Err (v.NotHeld x)
    ∷ Err (v.NoRoom x)
    ∷ Err (v.Fault x)
    ∷ Err v.TooFar
    ∷ Err v.BadBookmark
    ∷ Err v.Punctuated
    ∷ Err v.TooFar
    ∷ Err v.TooFar
    ∷ Err v.NoUnits
    ∷ []

answer_of : Reply → Answer
answer_of r = get_or (in_order (value_of r)) (number_of r) (Err v.TooFar)

answer_back : (a : Answer) → answer_of (reply a) ≡ a
unfolding answer_of in_order
answer_back (Ok x) = refl
answer_back (Err v.WrongLength) = refl
answer_back (Err v.NotSound) = refl
answer_back (Err v.BadNumber) = refl
answer_back (Err (v.Unordered x)) = refl
answer_back (Err (v.Unregistered x)) = refl
answer_back (Err (v.Amount x)) = refl
answer_back (Err v.TooMany) = refl
answer_back (Err v.NoTag) = refl
answer_back (Err (v.Held x)) = refl
answer_back (Err v.TagBorne) = refl
answer_back (Err (v.NotHeld x)) = refl
answer_back (Err (v.NoRoom x)) = refl
answer_back (Err (v.Fault x)) = refl
answer_back (Err v.TooFar) = refl
answer_back (Err v.BadBookmark) = refl
answer_back (Err v.Punctuated) = refl
answer_back (Err v.NoUnits) = refl

-- the reply determines the answer
pub reply_determines : (a b : Answer) → reply a ≡ reply b → a ≡ b
reply_determines a b e = sym (answer_back a) ∙ ap answer_of e ∙ answer_back b

------------------------------------------------------------------------
-- What a `?` hands on

-- each refusal is one
pub refuses : (e : Refusal) → is_refused (refusal e) ≡ true
refuses e = grind arith

-- what left by a `?` is the refusal that was met there
pub handed_reply : (a : Answer) (e : Refusal) → IsErrAnd a (λ x. x ≡ e) → reply a ≡ refusal e
handed_reply a e h = let p = err_from_is_err_and a h in rw (p.1, p.2)

pub handed_check : {T : Type 0} (a : Result T Refusal) (e : Refusal) → IsErrAnd a (λ x. x ≡ e) → checked a ≡ refusal e
handed_check a e h = let p = err_from_is_err_and a h in rw (p.1, p.2)
