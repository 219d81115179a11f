-- How far a faulty item can stand from the start of a card, however long the card is: each line that is passed has a good number and a unit.
use mathlib.Core.Path.{refl, ap}
use mathlib.Core.Bool.{Bool, true, false, cond}
use mathlib.Core.List.{List, [], ◌∷◌}
use Prim.Native.Nat.{ℕ, zero, suc, ◌+◌, ◌-◌, ◌*◌, ◌≤◌}
use native.Mathlib.Omega.{arith}
use lib.ListN.{length}
use Rattle.ground.specs.Lists.{eq_list, is_zero}
use Rattle.kits.specs.Kits.{most_units}
use Rattle.register.proofs.Slots.{number_short}
use Rattle.sheet.specs.Bytes.{from_bytes, two_bytes}
use Rattle.sheet.specs.Sheet.{mark_bytes}
use Rattle.sheet.specs.Reading.{item, fault, offset}
use Rattle.sheet.proofs.Accepted.{Taken}
use Rattle.sheet.proofs.Reach.{Read, read, stopped, Any, onward_read, one_read, bytes_read, offset_within}
use Rattle.card.specs.Card.{NamedLine, NamedKit, card_mark, units_said}
use Rattle.card.specs.Reading.{is_card_version, tag_given, count_bytes, any_count, named_size, named_in, new_line, lines_said, the_end, decode_card}
use Rattle.card.specs.Inner.{card_head, most_named, most_card}
use Rattle.card.proofs.Written.{named_length, line_passes_lem}
use Rattle.card.proofs.Accepted.{line_again}

-- a line that was read takes at most 26 bytes
line_near : (seen : List NamedLine) (bs b rest : List ℕ) (o p : ℕ) → Taken named_size (new_line seen) bs b rest o p → p ≤ o + most_named
line_near seen bs b rest o p t = omega (
  arith,
  t.next,
  t.long,
  ap length (line_again seen bs b rest o p t),
  named_length (named_in b),
  number_short (named_in b).number (line_passes_lem seen b t.is_good).line.number_good,
)

lines_near : (n : ℕ) (seen : List NamedLine) (bs : List ℕ) (o : ℕ) → units_said seen ≤ most_units →
    Read Any (o + (most_units - units_said seen) * most_named) (lines_said n seen bs o)
unfolding lines_said units_said
lines_near zero seen bs o h = read {o = o} refl (omega arith)
lines_near (suc n) seen bs o h =
    onward_read _ (one_read named_size (new_line seen) bs o (o + (most_units - units_said seen) * most_named) (omega arith)
    (λ b rest p t. let P = line_passes_lem seen b t.is_good in
    omega (arith, line_near seen bs b rest o p t, P.line.some, P.room)))
    (omega arith) (λ b rest p t l. let P = line_passes_lem seen b t.is_good in
    onward_read _ (lines_near n (named_in b ∷ seen) rest p (omega (arith, P.room)))
    (omega (arith, line_near seen bs b rest o p t, P.line.some, P.room)) (λ xs last q v k.
    read {o = q} refl (omega (arith, line_near seen bs b rest o p t, P.line.some, P.room))))

end_near : (c : NamedKit) (bs : List ℕ) (o : ℕ) → o ≤ most_card → Read Any most_card (the_end c bs o)
unfolding the_end
end_near c bs o h = go (is_zero (length bs))
  where
    go : (b : Bool) → Read Any most_card (cond b (item c bs o) (fault o))
    go true = read {o = o} refl h
    go false = stopped {o = o} h

card_near : (s : List ℕ) → Read Any most_card (decode_card s)
unfolding decode_card units_said
card_near s =
    onward_read _ (bytes_read mark_bytes (eq_list card_mark) s 0 3 (omega arith)) (omega arith) (λ m r1 o1 t1 l1.
    onward_read _ (bytes_read two_bytes is_card_version r1 o1 5 (omega arith)) (omega arith) (λ v r2 o2 t2 l2.
    onward_read _ (bytes_read two_bytes tag_given r2 o2 7 (omega arith)) (omega arith) (λ t r3 o3 t3 l3.
    onward_read _ (bytes_read count_bytes any_count r3 o3 card_head (omega arith)) (omega arith) (λ n r4 o4 t4 l4.
    onward_read _ (lines_near (from_bytes n) [] r4 o4 (omega arith)) (omega arith) (λ xs r5 o5 v l5.
    end_near (record { tag = from_bytes t; lines = xs }) r5 o5 (omega arith))))))

-- 13 has "a value below 2^32"
pub offset_small : (s : List ℕ) → offset (decode_card s) ≤ most_card
offset_small s = offset_within (card_near s)
