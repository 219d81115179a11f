-- Request 1, "kits that a bin almost fills": over the kits listed and their quantities alone.
use Rattle.std.specs.Prelude.{◌≡◌, Bool, ℕ, ◌+◌, ◌-◌, leb}
use mathlib.Core.List.{List, [], ◌∷◌, map, Memᴰ}
use Rattle.ground.specs.Lists.{from}
use Rattle.ground.specs.Calls.{Case, Plan, Both, set_both}
use Rattle.kits.specs.Kits.{most_units, most_place, units, count}
use Rattle.nodes.specs.Held.{Kit}
use Rattle.questions.specs.Questions.{fitting, all_of}

-- [11.8] "a number d from 0 to 64": no kit lacks more than all its units
abbrev pub most_short : ℕ
most_short = most_units

unfoldable pub sum_over : (ℕ → ℕ) → List ℕ → ℕ
sum_over f [] = 0
sum_over f (x ∷ xs) = f x + sum_over f xs

-- [11.6] "what it needs beyond the bin's quantity, never below zero for a part": a difference below zero is 0
unfoldable pub lacking : List ℕ → List ℕ → ℕ → ℕ
lacking bin kit p = count p kit - count p bin

-- [11.6] "The shortfall of a kit is the sum over its parts": over every place
unfoldable pub shortfall : List ℕ → List ℕ → ℕ
shortfall bin kit = sum_over (lacking bin kit) (from 0 (most_place + 1))

unfoldable pub short_of : List ℕ → Kit → ℕ
short_of bin k = shortfall bin k.row

-- [11.7] "exactly those kits whose shortfall is at most d": a question like those on inclusion
unfoldable pub is_almost : ℕ → List ℕ → Kit → Bool
is_almost d bin k = leb (short_of bin k) d

-- "their tags in listing order", "with the shortfall of each"
abbrev pub almost_tags : ℕ → List ℕ → List ℕ → List ℕ
almost_tags d l N = all_of (is_almost d) l N

unfoldable pub shorts_of : List ℕ → List Kit → List ℕ
shorts_of bin ks = map (short_of bin) ks

abbrev pub almost_shorts : ℕ → List ℕ → List ℕ → List ℕ
almost_shorts d l N = shorts_of (units l) (fitting (is_almost d) l N)

-- t and s are the tag and the shortfall of one of these kits
pub record OfOne (bin : List ℕ) (ks : List Kit) (t s : ℕ) : Type 0 where
  pub kit : Kit
  pub in_list : Memᴰ kit ks
  pub bears : t ≡ kit.tag
  pub lacks : s ≡ shortfall bin kit.row

-- [11.9] both set down, behind other refusals
abbrev pub list_almost : List Case → ℕ → List ℕ → List ℕ → Both → Plan Both
list_almost cs d l N o = set_both cs (almost_tags d l N) (almost_shorts d l N) o
