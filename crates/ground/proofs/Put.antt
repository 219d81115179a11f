-- Laws of `Put`: what is set down piece by piece, in an output or in its lent tail, and what is still to come.
use mathlib.Core.Path.{◌≡◌, refl, ap, sym, ◌∙◌}
use mathlib.Core.List.{List, [], ◌∷◌, ◌++◌, append-nil}
use Prim.Native.Nat.{ℕ, ◌+◌, ◌-◌, ◌≤◌, ◌<◌}
use native.Mathlib.Omega.{arith}
use lib.ListN.{length, take, drop, set, length-append}
use borrow.Rule.Slice.PartMut.{put_mid}
use Rattle.ground.specs.Laid.{laid, Put}
use Rattle.ground.proofs.Laid.{laid_nil, laid_one, laid_laid, laid_lent, length_laid, room}

------------------------------------------------------------------------
-- Set down

pub put_none : {bs : List ℕ} (o : List ℕ) (a : ℕ) → bs ≡ [] → Put o a bs a o
put_none o a e = rw e (record { behind = omega arith; lies = sym (laid_nil o a) })

pub put_one : (o : List ℕ) (a b : ℕ) → Put o a (b ∷ []) (a + 1) (set o a b)
put_one o a b = record { behind = omega arith; lies = laid_one o a b }

pub put_same : {o m bs cs : List ℕ} {a r : ℕ} → Put o a bs r m → bs ≡ cs → Put o a cs r m
put_same p e = rw (← e) p

pub put_length : {o m bs : List ℕ} {a r : ℕ} → Put o a bs r m → length m ≡ length o
put_length {o} {m} {bs} {a} p = ap length p.lies ∙ length_laid o a bs

-- one piece behind the other
pub put_put : {o m n bs cs : List ℕ} {a r s : ℕ} → Put o a bs r m → Put m r cs s n → Put o a (bs ++ cs) s n
put_put {o} {m} {n} {bs} {cs} {a} p q = record {
  behind = simp length-append (omega (arith, p.behind, q.behind));
  lies = q.lies ∙ rw (p.lies, p.behind) (laid_laid o a bs cs);
}

------------------------------------------------------------------------
-- In the tail of an output, which is lent and comes back

-- the tail from a place on, as it is lent; and the output when it has come back
abbrev pub tail_of : List ℕ → ℕ → List ℕ
tail_of m a = take (length m - a) (drop a m)

abbrev pub back : List ℕ → ℕ → List ℕ → List ℕ
back m a last = put_mid a (length m - a) m last

pub put_lent : {m bs last : List ℕ} {a q : ℕ} → a + length bs ≤ length m → Put (tail_of m a) 0 bs q last → Put m a bs (a + q) (back m a last)
put_lent {m} {bs} {last} {a} h p = record { behind = omega (arith, p.behind); lies = laid_lent m a bs last h p.lies }

------------------------------------------------------------------------
-- Still to come

-- of all that is to be set down over o from a place on, `rest` is to come from place `at` of what is there now, m: laid there, it is the whole
pub record Rest (o : List ℕ) (from : ℕ) (all m : List ℕ) (at : ℕ) (rest : List ℕ) : Type 0 where
  pub room : at + length rest ≤ length m
  pub size : length m ≡ length o
  pub ends : at + length rest ≡ from + length all
  pub lies : laid m at rest ≡ laid o from all

pub rest_start : (o : List ℕ) (from : ℕ) (all : List ℕ) → from + length all ≤ length o → Rest o from all o from all
rest_start o from all h = record { room = h; size = refl; ends = refl; lies = refl }

pub rest_same : {o all m rest more : List ℕ} {from at : ℕ} → Rest o from all m at rest → rest ≡ more → Rest o from all m at more
rest_same t e = rw (← e) t

-- the piece that comes first has room
pub rest_room : {o all m rest : List ℕ} {from at : ℕ} (bs more : List ℕ) → Rest o from all m at rest → rest ≡ bs ++ more →
    at + length bs ≤ length m
rest_room bs more t e = omega (arith, t.room, ap length e, length-append bs more)

-- it is set down
pub rest_put : {o all m rest bs more new : List ℕ} {from at r : ℕ} → Rest o from all m at rest → rest ≡ bs ++ more → Put m at bs r new →
    Rest o from all new r more
rest_put {o} {all} {m} {rest} {bs} {more} {new} {from} {at} {r} t e p =
    let len : length rest ≡ length bs + length more = ap length e ∙ length-append bs more in
    record {
      room = omega (arith, t.room, p.behind, put_length p);
      size = put_length p ∙ t.size;
      ends = omega (arith, t.ends, p.behind);
      lies = rw (p.lies, p.behind) (laid_laid m at bs more) ∙ ap (laid m at) (sym e) ∙ t.lies;
    }

-- the first piece: it has room, and it is set down
pub first_fits : (o bs more all : List ℕ) → all ≡ bs ++ more → length all ≤ length o → length bs ≤ length o
first_fits o bs more all e h = omega (arith, ap length e, length-append bs more)

pub rest_behind : {o m bs all : List ℕ} {r : ℕ} (more : List ℕ) → Put o 0 bs r m → all ≡ bs ++ more → length all ≤ length o →
    Rest o 0 all m r more
rest_behind {o} {all = all} more p e h = rest_put (rest_start o 0 all (omega arith)) e p

-- nothing is to come
pub rest_end : {o all m rest : List ℕ} {from at : ℕ} → Rest o from all m at rest → rest ≡ [] → Put o from all at m
rest_end {o} {all} {m} {rest} {from} {at} t e =
    record { behind = omega (arith, t.ends, ap length e); lies = sym (laid_nil m at) ∙ ap (laid m at) (sym e) ∙ t.lies }

-- the last piece
pub rest_last : {o all m rest bs new : List ℕ} {from at r : ℕ} → Rest o from all m at rest → rest ≡ bs → Put m at bs r new → Put o from all r new
rest_last {bs = bs} t e p = rest_end (rest_put {more = []} t (e ∙ sym (append-nil bs)) p) refl

-- one byte, d, which is the b that comes first
pub rest_byte : {o all m rest more new : List ℕ} {from at r b d : ℕ} → Rest o from all m at rest → rest ≡ b ∷ more → d ≡ b →
    Put m at (d ∷ []) r new → Rest o from all new r more
rest_byte {b = b} {d = d} t e f p = rest_put {bs = b ∷ []} t e (put_same p (ap (λ x. x ∷ []) f))

pub rest_byte_room : {o all m rest more : List ℕ} {from at b : ℕ} → Rest o from all m at rest → rest ≡ b ∷ more → at < length m
rest_byte_room {more = more} {b = b} t e = omega (arith, rest_room (b ∷ []) more t e)

-- In the lent tail
module _ {o all m : List ℕ} {from at : ℕ} (bs more : List ℕ) (t : Rest o from all m at (bs ++ more)) where
  pub rest_inside : at + length bs ≤ length m
  rest_inside = rest_room bs more t refl

  pub rest_fits : length bs ≤ length (tail_of m at)
  rest_fits = room m at (length bs) rest_inside

  pub rest_lent : {last : List ℕ} {q : ℕ} → Put (tail_of m at) 0 bs q last → Rest o from all (back m at last) (at + q) more
  rest_lent p = rest_put t refl (put_lent rest_inside p)

module _ {o all m bs : List ℕ} {from at : ℕ} (t : Rest o from all m at bs) where
  pub last_fits : length bs ≤ length (tail_of m at)
  last_fits = room m at (length bs) t.room

  pub last_lent : {last : List ℕ} {q : ℕ} → Put (tail_of m at) 0 bs q last → Put o from all (at + q) (back m at last)
  last_lent p = rest_last t refl (put_lent t.room p)
