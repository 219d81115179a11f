-- Words set down in two outputs in step.
use mathlib.Core.Path.{◌≡◌, refl, ap, sym}
use mathlib.Core.List.{List, [], ◌++◌, map}
use Prim.Native.Nat.{ℕ, ◌+◌}
use native.Mathlib.Omega.{arith}
use lib.ListN.{length, length-map, set}
use Rattle.ground.specs.Laid.{laid}
use Rattle.ground.proofs.Laws.{map_append}
use Rattle.ground.proofs.Put.{put_none, put_put, put_same}
use Rattle.questions.specs.Inner.{if_tag, some_tag}
use Rattle.questions.proofs.Written.{no_word, put_word}
use Rattle.shortfalls.specs.Inner.{PutBoth}

pub both_none : (o p : List ℕ) (n : ℕ) (ts ss : List ℕ) → ts ≡ [] → ss ≡ [] → PutBoth o p n ts ss n o p
both_none o p n ts ss e f = record { one = put_none o n e; two = put_none p n f }

pub both_skipped : (o p : List ℕ) (n t s : ℕ) → t ≡ 0 → PutBoth o p n (some_tag t) (if_tag t s) n o p
both_skipped o p n t s e = both_none o p n (some_tag t) (if_tag t s) (no_word t t e) (no_word t s e)

pub both_put : (o p : List ℕ) {o' p' : List ℕ} (n t s : ℕ) → (t ≡ 0 → ⊥) → o' ≡ set o n t → p' ≡ set p n s →
    PutBoth o p n (some_tag t) (if_tag t s) (n + 1) o' p'
both_put o p n t s h e f = record { one = put_word o n t t h e; two = put_word p n t s h f }

pub both_on : {o o' o'' p p' p'' : List ℕ} {n k r : ℕ} {ts us ss vs : List ℕ} → PutBoth o p n ts ss k o' p' →
    PutBoth o' p' k us vs r o'' p'' → PutBoth o p n (ts ++ us) (ss ++ vs) r o'' p''
both_on a b = record { one = put_put a.one b.one; two = put_put a.two b.two }

pub both_same : {o o' p p' : List ℕ} {n r : ℕ} {ts us ss vs : List ℕ} → ts ≡ us → ss ≡ vs → PutBoth o p n us vs r o' p' →
    PutBoth o p n ts ss r o' p'
both_same e f w = record { one = put_same w.one (sym e); two = put_same w.two (sym f) }

-- Words of nodes, one list of nodes behind the other
module _ (f g : ℕ → ℕ) where
  pub nodes_on : (is js : List ℕ) {o o' o'' p p' p'' : List ℕ} {n k r : ℕ} →
      PutBoth o p n (map f is) (map g is) k o' p' →
      PutBoth o' p' k (map f js) (map g js) r o'' p'' →
      PutBoth o p n (map f (is ++ js)) (map g (is ++ js)) r o'' p''
  nodes_on is js a b = both_same (map_append f is js) (map_append g is js) (both_on a b)

  pub nodes_same : {o o' p p' : List ℕ} {n r : ℕ} {is js : List ℕ} → is ≡ js → PutBoth o p n (map f js) (map g js) r o' p' →
      PutBoth o p n (map f is) (map g is) r o' p'
  nodes_same e w = both_same (ap (map f) e) (ap (map g) e) w

  pub nodes_none : (o p : List ℕ) (n : ℕ) {is : List ℕ} → is ≡ [] → PutBoth o p n (map f is) (map g is) n o p
  nodes_none o p n {is} e = both_none o p n (map f is) (map g is) (ap (map f) e) (ap (map g) e)

  pub nodes_down : (o p : List ℕ) (n : ℕ) (is : List ℕ) →
      PutBoth o p n (map f is) (map g is) (n + length is) (laid o n (map f is)) (laid p n (map g is))
  nodes_down o p n is = record {
    one = record { behind = omega (arith, length-map is f); lies = refl };
    two = record { behind = omega (arith, length-map is g); lies = refl };
  }
