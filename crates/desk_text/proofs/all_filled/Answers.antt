-- The library's parts of a slice are the fields of a line.
use Rattle.std.proofs.Common.{◌≡◌, ℕ, Bool, List, [], ◌∷◌, ◌&&◌, not, eqb, leb, refl, ap, ◌∙◌, rules, tests}
use Rattle.std.specs.List.{list_all}
use Rattle.std.proofs.lemmas.Iterator.Search.{all_from_yields_List}
use Rattle.std.proofs.lemmas.Iterator.Splits.{YieldsList-from_slice_split}
use Rattle.ground.specs.Lists.{allb}
use Rattle.desk_text.specs.Lines.{space, filled}
use Rattle.desk_text.proofs.Parted.{parted_split}
use Rattle.desk_text.proofs.all_filled.Goals as goal

all_same : {A : Type 0} (p : A → Bool) (xs : List A) → list_all p xs ≡ allb p xs
unfolding allb
all_same p [] = refl
all_same p (x ∷ xs) = ap (◌&&◌ (p x)) (all_same p xs)

filled_if : (n : ℕ) → not (eqb n 0) ≡ leb 1 n
filled_if n = search (rules, tests)

pub returns : goal.returns
unfolding filled
returns c =
    let l = c.args.line.now in
    all_from_yields_List filled _ _ c.all.result c.all.ensures.ran
    (YieldsList-from_slice_split _ (λ x. eqb x space) l c.split.ensures.rest c.split.ensures.done c.split.ensures.closure (λ x b q k. search (rules, tests)))
    (λ x b q k. search (rules, tests, filled_if))
    ∙ all_same filled _ ∙ ap (allb filled) (parted_split space l)
