-- A fault refuses before any table is touched, up to the kit count or where the run stops; a whole sheet is taken in with the judge's own counts.
use mathlib.Core.Path.{◌≡◌, refl, sym, ◌∙◌}
use mathlib.Core.Bool.{Bool, true, false}
use Prim.Native.Nat.{ℕ}
use native.Mathlib.Omega.{arith}
use Rattle.std.specs.Prelude.{Result, Ok, Err, MatchResult, IsErrAnd}
use Rattle.std.proofs.lemmas.Result.{err_from_is_err_and}
use Rattle.ground.specs.Tables.{tables}
use Rattle.answers.specs.Answers.{reply}
use Rattle.answers.specs.declared.Refusal.{Refusal}
use Rattle.answers.specs.declared.Refusal.TheVariants.{Fault}
use Rattle.sheet_judge.specs.declared.Found.{Found}
use Rattle.sheet_read.proofs.Sheets.{Salvageable, salvageable}
use Rattle.sheet_read.proofs.Promised.{reading_13, reading_torn, reading_taken}
use Rattle.sheet_read.proofs.read_sheet.Goals as goal
use Rattle.sheet_read.proofs.read_sheet.Goals.{After-is_torn}

-- what the judge said, by what its answer became
module _ {q : Result Found Refusal} where
  found_by : {f : Found} (r : Result Found ℕ) → MatchResult r (λ x. q ≡ Ok x) (λ o. IsErrAnd q (λ e. e ≡ Fault o)) → q ≡ Ok f → Ok f ≡ r
  found_by (Ok x) m w = cc
  found_by (Err o) m w = absurd (rw w at m)

  fault_by : {e : Refusal} (r : Result Found ℕ) → MatchResult r (λ x. q ≡ Ok x) (λ o. IsErrAnd q (λ e. e ≡ Fault o)) → q ≡ Err e →
      (o : ℕ) × (e ≡ Fault o) × (Err o ≡ r)
  fault_by (Ok x) m w = absurd (let z : ◌≡◌ {A = Bool} true false = cc in cc)
  fault_by (Err o) m w = (o, rw w at m, refl)

judged : (c : After-is_torn) → Salvageable c.args.s.now c.in_ok-found.found
judged c = salvageable c.args.s.now c.in_ok-found.found (found_by _ c.map_err.ensures.cases c.in_ok-found.was ∙ c.judge.ensures)

pub returns-in_err-found : goal.returns-in_err-found
returns-in_err-found c =
    let p = err_from_is_err_and c.from_residual.result c.from_residual.ensures.1 in
    let o = fault_by _ c.map_err.ensures.cases c.in_err-found.was in
    rw (p.1, p.2, o.1) (reading_13 c.args.s.now (tables c.args.reg.now c.args.nodes.now) o.0 (o.2 ∙ c.judge.ensures))

pub returns-then-is_torn : goal.returns-then-is_torn
returns-then-is_torn c =
    reading_torn (judged (goal.at.returns-then-is_torn c).After-is_torn) (tables c.args.reg.now c.args.nodes.now)
    (λ i. omega (arith, c.type_inv.s i)) (sym c.is_torn.ensures ∙ c.if-is_torn.true)

pub returns : goal.returns
returns c =
    reading_taken (judged (goal.at.returns c).After-is_torn) (tables c.args.reg.now c.args.nodes.now)
    (λ i. omega (arith, c.type_inv.s i)) (sym c.is_torn.ensures ∙ c.if-is_torn.false) (reply c.take_in.result)
    (tables c.take_in.new.reg c.take_in.new.nodes) c.take_in.ensures
