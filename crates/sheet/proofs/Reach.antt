-- How far a reading comes, however long the bytes are, and what is known of what it read.
use mathlib.Core.Path.{◌≡◌, refl}
use mathlib.Core.Bool.{Bool, true, false, ◌&&◌, cond}
use mathlib.Core.List.{List}
use Prim.Native.Nat.{ℕ, ◌+◌, ◌≤◌}
use native.Mathlib.Omega.{arith}
use lib.ListN.{length, take, drop}
use lib.Dec.{leb}
use Rattle.sheet.specs.Reading.{Item, item, fault, Reading, onward, one, bytes, offset}
use Rattle.sheet.proofs.Accepted.{Taken, one_back}

-- it comes at most n bytes far; P says what is known of what it read, of the bytes behind and of their offset
pub data Read {A : Type 0} (P : A → List ℕ → ℕ → Type 0) (n : ℕ) : Item A → Type 0 where
  read : {a : A} {bs : List ℕ} {o : ℕ} → P a bs o → o ≤ n → Read P n (item a bs o)
  stopped : {o : ℕ} → o ≤ n → Read P n (fault o)

-- nothing is known
abbrev pub Any : {A : Type 0} → A → List ℕ → ℕ → Type 0
Any a bs o = o ≡ o

pub onward_read : {A B : Type 0} {P : A → List ℕ → ℕ → Type 0} {Q : B → List ℕ → ℕ → Type 0} {n k : ℕ} {m : Item A} (f : A → Reading B) →
    Read P n m → n ≤ k → ((a : A) (bs : List ℕ) (o : ℕ) → P a bs o → o ≤ n → Read Q k (f a bs o)) → Read Q k (onward m f)
unfolding onward
onward_read f (read {a = a} {bs = bs} {o = o} p h) l g = g a bs o p h
onward_read f (stopped {o = o} h) l g = stopped {o = o} (omega arith)

-- an item
abbrev pub Took : (List ℕ → ℕ) → (List ℕ → Bool) → List ℕ → ℕ → List ℕ → List ℕ → ℕ → Type 0
Took size good bs o b rest p = Taken size good bs b rest o p

pub one_read : (size : List ℕ → ℕ) (good : List ℕ → Bool) (bs : List ℕ) (o n : ℕ) → o ≤ n →
    ((b rest : List ℕ) (p : ℕ) → Taken size good bs b rest o p → p ≤ n) → Read (Took size good bs o) n (one size good bs o)
unfolding one
one_read size good bs o n l f = go (leb (size bs) (length bs) && good (take (size bs) bs)) refl
  where
    go : (x : Bool) → (leb (size bs) (length bs) && good (take (size bs) bs)) ≡ x →
        Read (Took size good bs o) n (cond x (item (take (size bs) bs) (drop (size bs) bs) (o + size bs)) (fault o))
    go true e =
        let t = one_back size good bs o (take (size bs) bs) (drop (size bs) bs) (o + size bs) (rw e) in
        read t (f (take (size bs) bs) (drop (size bs) bs) (o + size bs) t)
    go false e = stopped {o = o} l

-- of so many bytes
pub bytes_read : (k : ℕ) (good : List ℕ → Bool) (bs : List ℕ) (o n : ℕ) → o + k ≤ n → Read (Took (bytes k) good bs o) n (one (bytes k) good bs o)
unfolding bytes
bytes_read k good bs o n h = one_read (bytes k) good bs o n (omega arith) (λ b rest p t. omega (arith, t.next))

pub offset_within : {A : Type 0} {P : A → List ℕ → ℕ → Type 0} {n : ℕ} {m : Item A} → Read P n m → offset m ≤ n
unfolding offset
offset_within (read p h) = omega arith
offset_within (stopped h) = h
