-- What reading a card answers, once the judge has judged it and its lines are looked up: the law that each return of the code puts its facts into.
use mathlib.Core.Path.{◌≡◌, refl, ap, sym, ◌∙◌}
use mathlib.Core.Bool.{true, false}
use mathlib.Core.List.{List}
use Prim.Native.Nat.{ℕ, ◌*◌, ◌≤◌}
use native.Mathlib.Omega.{arith}
use lib.ListN.{length, take}
use Rattle.ground.specs.Calls.{decide}
use Rattle.std.specs.Prelude.{Ok, Err}
use Rattle.answers.specs.declared.Refusal.{Refusal}
use Rattle.answers.specs.declared.Refusal.TheVariants as v
use Rattle.kits.specs.Kits.{most_units, units, fixed_row}
use Rattle.register.specs.Register.{parts_of}
use Rattle.register.specs.Inner.{Ready}
use Rattle.register.proofs.Laws.{sound_once}
use Rattle.sheet.specs.Sheet.{line_words}
use Rattle.sheet.specs.Reading.{Item, item, fault, is_fault, offset}
use Rattle.card.specs.Card.{NamedKit, list_on}
use Rattle.card.specs.Calls.{card_refusals}
use Rattle.card.specs.Reading.{decode_card, said_card}
use Rattle.card.specs.declared.Card.{Card}
use Rattle.card.proofs.Codec.{said_lines_good}
use Rattle.card.proofs.Orders.{units_on}
use Rattle.card_judge.specs.Inner.{card_judged}
use Rattle.card_read.specs.declared.CardKit.{CardKit}
use Rattle.card_read.specs.Inner.{said_by, Faultless, LinesPlaced, ReadsCard}
use Rattle.card_read.proofs.Placing.{all_known}

------------------------------------------------------------------------
-- What the judge says

judged_fault : (i : Item NamedKit) (o : ℕ) → Err o ≡ card_judged i → (is_fault i ≡ true) × (offset i ≡ o)
unfolding card_judged is_fault offset
judged_fault (fault p) o e = (refl, (cc))
judged_fault (item c bs p) o e = absurd (let z : ◌≡◌ {A = ℕ} 0 1 = cc in omega arith)

pub judged_good : (s : List ℕ) (c : Card) → Ok c ≡ card_judged (decode_card s) → Faultless s c
unfolding card_judged is_fault said_card
judged_good s c e = go (decode_card s) refl e
  where
    go : (i : Item NamedKit) → decode_card s ≡ i → Ok c ≡ card_judged i → Faultless s c
    go (item k bs p) f g =
        let q : c ≡ record { tag = k.tag; lines = length k.lines } = cc in
        record {
          no_fault = ap is_fault f;
          tagged = ap (λ (z : Card). z.tag) q ∙ ap (λ (i : Item NamedKit). (said_card i).tag) (sym f);
          counted = ap (λ (z : Card). z.lines) q ∙ ap (λ (i : Item NamedKit). length (said_card i).lines) (sym f);
        }
    go (fault p) f g = absurd (let z : ◌≡◌ {A = ℕ} 0 1 = cc in omega arith)

------------------------------------------------------------------------
-- What reading answers

module _ (ps : List (List ℕ)) (s : List ℕ) where
  -- a refusal says nothing of a kit
  pub reads_fault : (o : ℕ) → Err o ≡ card_judged (decode_card s) → ReadsCard ps s (Err (v.Fault o))
  unfolding card_refusals decide
  reads_fault o j =
      let f = judged_fault (decode_card s) o j in
      record { answers = rw (f.0, f.1); tagged = tt; rowed = tt }

  module _ {l : List ℕ} (good : is_fault (decode_card s) ≡ false) where
    pub reads_unknown : (e : Refusal) → LinesPlaced ps s (Err e) l → ReadsCard ps s (Err e)
    unfolding card_refusals decide
    reads_unknown e L = record { answers = rw good (sym L.unknown); tagged = tt; rowed = tt }

    pub reads_kit : (c : Card) (k : CardKit) → LinesPlaced ps s (Ok tt) l → Faultless s c → k.tag ≡ c.tag →
        k.row ≡ fixed_row (units (take (c.lines * line_words) l)) → ReadsCard ps s (Ok k)
    unfolding card_refusals decide
    reads_kit c k L S t row = record {
      answers = rw good (sym L.unknown);
      tagged = t ∙ S.tagged;
      rowed = row ∙ ap (λ (us : List ℕ). fixed_row us) (ap units (ap (λ n. take (n * line_words) l) S.counted ∙ L.in_place));
    }

-- the units of the lines in place have room in a row
pub placed_fits : (R s : List ℕ) (c : Card) {l : List ℕ} → Ready R → Faultless s c → LinesPlaced (parts_of R) s (Ok tt) l →
    length (units (take (c.lines * line_words) l)) ≤ most_units
unfolding list_on
placed_fits R s c {l} ready S L =
    let ps = parts_of R in
    let k : NamedKit = record { tag = 1; lines = (said_by s).lines } in
    let G = (said_lines_good s S.no_fault).0 in
    let e : take (c.lines * line_words) l ≡ list_on ps k = ap (λ n. take (n * line_words) l) S.counted ∙ L.in_place in
    rw e (omega (arith, units_on ps (sound_once R ready) k G (all_known ps 1 0 (said_by s).lines L.unknown), G.few_units))
