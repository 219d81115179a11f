-- Inner: no promise of the house rests on what stands here; inner contracts and proofs speak by it.
-- Numbers in some bytes, each behind its length byte; their offsets; their hashes, and the tables that lead from a number back to those of its hash.
use Rattle.std.specs.Prelude.{◌≡◌, Bool, cond, List, [], ◌∷◌, map, ℕ, zero, suc, ◌+◌, ◌-◌, ◌*◌, ◌%◌, ◌≤◌, ◌<◌, length, take, drop, get_or, eqb}
use Rattle.ground.specs.Lists.{anyb, eq_list, from}

-- the number that stands at a place, and where it ends
abbrev pub number_here : List ℕ → ℕ → List ℕ
number_here s j = take (get_or s j 0) (drop (j + 1) s)

abbrev pub next_place : List ℕ → ℕ → ℕ
next_place s j = j + 1 + get_or s j 0

------------------------------------------------------------------------
-- Numbers by their offsets

-- so many at most
abbrev pub most_entries : ℕ
most_entries = 4096

-- of the bytes s, the number at the k-th of the offsets a, counted from 0
unfoldable pub entry_of : List ℕ → List ℕ → ℕ → List ℕ
entry_of s a k = number_here s (get_or a k 0)

-- the first k of the numbers f 0, f 1, ..
abbrev pub first_entries : (ℕ → List ℕ) → ℕ → List (List ℕ)
first_entries f k = map f (from 0 k)

-- the number f k is one of those before it
abbrev pub is_repeat : (ℕ → List ℕ) → ℕ → Bool
is_repeat f k = anyb (eq_list (f k)) (first_entries f k)

-- the numbers at the first m offsets end inside the bytes
pub record EntriesInside (s a : List ℕ) (m : ℕ) : Type 0 where
  pub few : m ≤ most_entries
  pub inside : (k : ℕ) → k < m → next_place s (get_or a k 0) ≤ length s

------------------------------------------------------------------------
-- Numbers by their hashes

abbrev pub hashes : ℕ
hashes = 4093

abbrev pub hash_base : ℕ
hash_base = 263

abbrev pub hash_room : ℕ
hash_room = 0x1_0000_0000

-- a number's hash, on from h
unfoldable pub hash_from : ℕ → List ℕ → ℕ
hash_from h [] = h % hashes
hash_from h (b ∷ bs) = hash_from ((h * hash_base + b) % hash_room) bs

unfoldable pub hash_of : List ℕ → ℕ
hash_of n = hash_from 0 n

-- the last of the numbers f 0 .. f (k - 1) that has the hash h, counted from 1; 0 where none has
unfoldable pub last_hashed : (ℕ → List ℕ) → ℕ → ℕ → ℕ
last_hashed f h zero = 0
last_hashed f h (suc k) = cond (eqb (hash_of (f k)) h) (suc k) (last_hashed f h k)

-- the e-th number, counted from 1, has the hash h; or there is none
abbrev pub LastHas : (ℕ → List ℕ) → ℕ → ℕ → Type 0
LastHas f h e = 0 < e → hash_of (f (e - 1)) ≡ h

-- each of the first k numbers leads back to the last before it that has its hash
pub record LeadsBack (f : ℕ → List ℕ) (earlier : List ℕ) (k : ℕ) : Type 0 where
  pub few : k ≤ most_entries
  pub leads : (j : ℕ) → j < k → get_or earlier j 0 ≡ last_hashed f (hash_of (f j)) j

-- the first k numbers are entered: the last of each hash is known, and leads back
pub record Hashed (f : ℕ → List ℕ) (lasts earlier : List ℕ) (k : ℕ) : Type 0 where
  pub wide : length lasts ≡ hashes
  pub long : length earlier ≡ most_entries
  pub known : (h : ℕ) → h < hashes → get_or lasts h 0 ≡ last_hashed f h k
  pub back : LeadsBack f earlier k
