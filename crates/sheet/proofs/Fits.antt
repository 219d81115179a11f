-- Contents that fit the format, sentence by sentence; listing order and different tags also in the words of the node table's laws.
use mathlib.Core.Path.{◌≡◌, refl, sym, ap, ◌∙◌}
use mathlib.Core.Bool.{true, false, not}
use mathlib.Core.List.Memᴰ
use mathlib.Core.List.{List, [], ◌∷◌}
use Prim.Native.Nat.{◌≤◌, ◌<◌}
use lib.ListN.{length}
use lib.Dec.{eqb}
use borrow.Author.Tests.{leb-true, ltb-true, le-leb, lt-ltb, ne_eqb, not-true}
use Rattle.ground.specs.Limits.{most_parts, two_limit}
use Rattle.ground.specs.Lists.{allb, anyb, every, distinct, eq_list}
use Rattle.ground.proofs.Laws.{and_left, and_right, and_both, every_at}
use Rattle.register.specs.Number.{good_number}
use Rattle.kits.specs.Kits.{before}
use Rattle.kits.proofs.Order.{before_transitive}
use Rattle.nodes.specs.Held.{Kit, tags_of}
use Rattle.nodes.proofs.Lists.{never}
use Rattle.nodes.proofs.Sorted.{Every, Rising, none, also, ahead, every_mem, mem_every, every_map, eqb_anyb}
use Rattle.nodes.proofs.Listing.{Earlier, OtherTag, tags_mem, mem_tags}
use Rattle.sheet.specs.Sheet.{Contents}
use Rattle.sheet.specs.Inner.{good_kit, rising, fits_sheet}
use Rattle.sheet.proofs.Fresh.{any_none}

pub record Fits (c : Contents) : Type 0 where
  pub few_parts_lem : length c.parts ≤ most_parts
  pub numbers_good : allb good_number c.parts ≡ true
  pub numbers_once : distinct eq_list c.parts ≡ true
  pub few_kits : length c.kits < two_limit
  pub kits_good : allb (good_kit (length c.parts)) c.kits ≡ true
  pub tags_once : distinct eqb (tags_of c.kits) ≡ true
  pub kits_rise : rising c.kits ≡ true

pub fitting_fits : (c : Contents) → fits_sheet c ≡ true → Fits c
unfolding fits_sheet
fitting_fits c h = record {
  few_parts_lem = leb-true (length c.parts) most_parts (every_at _ 0 h);
  numbers_good = every_at _ 1 h;
  numbers_once = every_at _ 2 h;
  few_kits = ltb-true (length c.kits) two_limit (every_at _ 3 h);
  kits_good = every_at _ 4 h;
  tags_once = every_at _ 5 h;
  kits_rise = every_at _ 6 h;
}

pub fits_fitting : (c : Contents) → Fits c → fits_sheet c ≡ true
unfolding fits_sheet every
fits_fitting c f =
    let a = le-leb (length c.parts) most_parts f.few_parts_lem in
    let b = f.numbers_good in
    let d = f.numbers_once in
    let e = lt-ltb (length c.kits) two_limit f.few_kits in
    let g = f.kits_good in
    let h = f.tags_once in
    let i = f.kits_rise in
    rw (a, b, d, e, g, h, i)

-- each kit before the next, and each before all that follow
pub rising_tail : (k : Kit) (ks : List Kit) → rising (k ∷ ks) ≡ true → rising ks ≡ true
unfolding rising
rising_tail k [] h = refl
rising_tail k (l ∷ ks) h = and_right (before k.row l.row) (rising (l ∷ ks)) h

pub rising_before : (k : Kit) (ks : List Kit) → rising (k ∷ ks) ≡ true → Every (Earlier k) ks
unfolding rising
rising_before k [] h = none
rising_before k (l ∷ ks) h =
    let b : before k.row l.row ≡ true = and_left (before k.row l.row) (rising (l ∷ ks)) h in
    also b (every_map (λ x e. before_transitive k.row l.row x.row b e) (rising_before l ks (rising_tail k (l ∷ ks) h)))

pub rising_earlier : (ks : List Kit) → rising ks ≡ true → Rising Earlier ks
rising_earlier [] h = none
rising_earlier (k ∷ ks) h = ahead (rising_before k ks h) (rising_earlier ks (rising_tail k ks h))

pub earlier_rising : {ks : List Kit} → Rising Earlier ks → rising ks ≡ true
unfolding rising
earlier_rising none = refl
earlier_rising (ahead none s) = refl
earlier_rising (ahead {x = k} (also {x = l} {xs = ks} b e) s) = and_both (before k.row l.row) (rising (l ∷ ks)) b (earlier_rising s)

-- no tag twice
pub tags_apart : (ks : List Kit) → distinct eqb (tags_of ks) ≡ true → Rising OtherTag ks
unfolding distinct tags_of
tags_apart [] h = none
tags_apart (k ∷ ks) h =
    let a : anyb (eqb k.tag) (tags_of ks) ≡ false = not-true _
    (and_left (not (anyb (eqb k.tag) (tags_of ks))) (distinct eqb (tags_of ks)) h) in
    ahead (mem_every ks (λ y m q. never (sym (eqb_anyb k.tag (tags_of ks) (Memᴰ.cast q (mem_tags y ks m))) ∙ a)))
    (tags_apart ks (and_right (not (anyb (eqb k.tag) (tags_of ks))) (distinct eqb (tags_of ks)) h))

pub apart_tags : {ks : List Kit} → Rising OtherTag ks → distinct eqb (tags_of ks) ≡ true
unfolding distinct tags_of
apart_tags none = refl
apart_tags (ahead {x = k} {xs = ks} e s) =
    and_both (not (anyb (eqb k.tag) (tags_of ks))) (distinct eqb (tags_of ks))
    (ap not (any_none (eqb k.tag) (tags_of ks)
    (λ t m. let o = tags_mem t ks m in ne_eqb k.tag t (λ q. every_mem e o.1 (q ∙ sym o.2)))))
    (apart_tags s)
