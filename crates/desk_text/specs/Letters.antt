-- Document 01, "The desk program": the letters.
use Rattle.std.specs.Prelude.{◌≡◌, List, [], ◌∷◌, ℕ, Option, Some, None}
use Rattle.desk_text.specs.declared.Letter.{Letter}
use Rattle.desk_text.specs.declared.Letter.TheVariants as v

-- "P number registers"
abbrev pub registers : ℕ
registers = 0x50

-- "K tag, then number and quantity pairs, inserts"
abbrev pub inserts : ℕ
inserts = 0x4B

-- "F finds"
abbrev pub finds : ℕ
finds = 0x46

-- "D deletes"
abbrev pub deletes : ℕ
deletes = 0x44

-- "B any within"
abbrev pub any_within : ℕ
any_within = 0x42

-- "S any containing"
abbrev pub any_containing : ℕ
any_containing = 0x53

-- "b and s list all"
abbrev pub all_within : ℕ
all_within = 0x62

abbrev pub all_containing : ℕ
all_containing = 0x73

-- "W writes"
abbrev pub writes : ℕ
writes = 0x57

-- the letters that take a list alone
abbrev pub takes_list : List ℕ
takes_list = finds ∷ deletes ∷ any_within ∷ any_containing ∷ all_within ∷ all_containing ∷ []

-- the byte of each letter
abbrev pub byte_of : Letter → ℕ
byte_of v.Registers = registers
byte_of v.Inserts = inserts
byte_of v.Finds = finds
byte_of v.Deletes = deletes
byte_of v.AnyWithin = any_within
byte_of v.AnyContaining = any_containing
byte_of v.AllWithin = all_within
byte_of v.AllContaining = all_containing
byte_of v.Writes = writes

-- the letter whose byte b is; none where it is the byte of no letter
abbrev pub StandsFor : ℕ → Option Letter → Type 0
StandsFor b None = (x : Letter) → byte_of x ≡ b → ⊥
StandsFor b (Some x) = byte_of x ≡ b
