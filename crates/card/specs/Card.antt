-- Request 5, "A card for a single kit": what a card says, its bytes, and how its lines and a list of places are each other.
use Rattle.std.specs.Prelude.{◌≡◌, Bool, true, ℕ, ◌+◌, ◌-◌, ◌<◌, ◌≤◌, length, get_or, ltb}
use mathlib.Core.List.{List, [], ◌∷◌, ◌++◌, map, Memᴰ}
use Rattle.ground.specs.Limits.{two_limit}
use Rattle.ground.specs.Lists.{concat, order_by}
use Rattle.kits.specs.Kits.{before, most_quantity, most_units}
use Rattle.register.specs.Number.{good_number}
use Rattle.register.specs.Register.{place_in}
use Rattle.sheet.specs.Bytes.{two}
use Rattle.sheet.specs.Sheet.{number_item}

-- [12.24] a kit by the numbers of its parts, in place of their places: what a card says
pub record NamedLine : Type 0 where
  pub number : List ℕ
  pub quantity : ℕ

pub record NamedKit : Type 0 where
  pub tag : ℕ
  pub lines : List NamedLine

-- [12.24] "mark KIC"
abbrev pub card_mark : List ℕ
card_mark = 0x4B ∷ 0x49 ∷ 0x43 ∷ []

-- [12.24] "version 1"
abbrev pub card_version : ℕ
card_version = 1

-- [12.25] "per line the length byte, the part number, and the quantity byte"
unfoldable pub named_item : NamedLine → List ℕ
named_item x = number_item x.number ++ (x.quantity ∷ [])

unfoldable pub named_items : List NamedLine → List ℕ
named_items xs = concat (map named_item xs)

-- [12.24] "mark KIC, version 1 in two bytes, tag in two, line count in one, then" the lines
unfoldable pub encode_card : NamedKit → List ℕ
encode_card c = card_mark ++ (two card_version ++ (two c.tag ++ (length c.lines ∷ named_items c.lines)))

-- [12.26] "rising byte order of their numbers, a shorter one before any longer one that it begins": `before` takes bytes as it takes places
unfoldable pub number_first : NamedLine → NamedLine → Bool
number_first x y = before x.number y.number

-- [12.27] "order of place", among the parts ps
unfoldable pub place_first : List (List ℕ) → NamedLine → NamedLine → Bool
place_first ps x y = ltb (place_in x.number ps) (place_in y.number ps)

-- the lines of a list, by the numbers that stand at its places
unfoldable pub named : List (List ℕ) → List ℕ → List NamedLine
named ps [] = []
named ps (p ∷ []) = []
named ps (p ∷ q ∷ l) = record { number = get_or ps (p - 1) []; quantity = q } ∷ named ps l

-- [12.27] "looking each number up": the list of some lines, by the places of their numbers
unfoldable pub placed : List (List ℕ) → List NamedLine → List ℕ
placed ps [] = []
placed ps (x ∷ xs) = place_in x.number ps ∷ x.quantity ∷ placed ps xs

-- [12.26] the card of a list with a tag, among the parts ps: "so that one kit has one card"
unfoldable pub card_of : List (List ℕ) → List ℕ → ℕ → NamedKit
card_of ps l t = record { tag = t; lines = order_by number_first (named ps l) }

-- [12.27] "looking each number up and setting the lines in order of place": the list of a card, among the parts ps
unfoldable pub list_on : List (List ℕ) → NamedKit → List ℕ
list_on ps c = placed ps (order_by (place_first ps) c.lines)

-- the units of some lines
unfoldable pub units_said : List NamedLine → ℕ
units_said [] = 0
units_said (x ∷ xs) = x.quantity + units_said xs

-- [12.26] each line before all that follow it; so no number stands twice
pub data NumbersRise : List NamedLine → Type 0 where
  none : NumbersRise []
  ahead : {x : NamedLine} {xs : List NamedLine} → ((y : NamedLine) → Memᴰ y xs → number_first x y ≡ true) → NumbersRise xs → NumbersRise (x ∷ xs)

-- [12.29] a card that no rule is against
pub record GoodCard (c : NamedKit) : Type 0 where
  pub some_tag_lem : 0 < c.tag
  pub small_tag : c.tag < two_limit
  pub numbers : (x : NamedLine) → Memᴰ x c.lines → good_number x.number ≡ true
  pub some_units : (x : NamedLine) → Memᴰ x c.lines → 0 < x.quantity
  pub few_each : (x : NamedLine) → Memᴰ x c.lines → x.quantity ≤ most_quantity
  pub few_units : units_said c.lines ≤ most_units
  pub in_order : NumbersRise c.lines
