-- The walk over the kit records: what is known behind k of them, and what the judge may answer.
use mathlib.Core.Path.{◌≡◌, refl, ap, ap₂, sym, ◌∙◌}
use mathlib.Core.Bool.{Bool, true, false, ◌||◌, not}
use mathlib.Core.List.{List, [], ◌∷◌, ◌++◌}
use Prim.Native.Nat.{ℕ, suc, ◌+◌, ◌-◌, ◌*◌, ◌≤◌, ◌<◌}
use native.Mathlib.Nat.{sub-zero}
use native.Mathlib.Omega.{arith}
use lib.ListN.{length, take, drop, get_or, set, length-drop, length-append, length-set}
use lib.Dec.{eqb}
use lib.Seq.{drop-drop, get_or-set_same, get_or-set_other}
use borrow.Author.Tests.{eq-eqb, eqb-true, eqb-false}
use Rattle.ground.specs.Limits.{two_limit}
use Rattle.ground.specs.Lists.{anyb, is_zero}
use Rattle.kits.specs.Kits.{units, most_units, units_in, fixed_row}
use Rattle.kits.specs.Inner.{agreed}
use Rattle.kits.specs.declared.Row.{Row}
use Rattle.kits.proofs.Rows.{row_back}
use Rattle.nodes.specs.Held.{Kit, all_beginnings}
use Rattle.sheet.specs.Bytes.{from_bytes, Bytes, two_bytes}
use Rattle.sheet.specs.Sheet.{place_bytes}
use Rattle.sheet.specs.Inner.{rising, head_bytes}
use Rattle.sheet.specs.Reading.{item, fault, onward, one, any_two, numbers, record_size, kit_in, has_tag, new_kit, stop, also, unless, records, run_of, salvaged}
use Rattle.sheet.specs.Reading.{salvage}
use Rattle.sheet.specs.Reading as paper
use Rattle.sheet.specs.declared.Sheet.{Sheet}
use Rattle.sheet.proofs.Accepted.{records_back}
use Rattle.sheet.proofs.Laws.{new_kits_rise}
use Rattle.sheet.proofs.Written.{any_good}
use Rattle.sheet.proofs.Items.{one_ok, bytes_short, bytes_ok}
use Rattle.sheet.specs.Inner.{record_at, list_at, WholeAt}
use Rattle.sheet_judge.specs.Inner.{Judged, judged_of, run_told, behind_numbers, Numbered, Tags, Latest, growth}
use Rattle.std.specs.Prelude.{Ok, Err}
use Rattle.sheet_judge.specs.declared.Run.{Run}
use Rattle.sheet_judge.proofs.Growth.{growth_beginnings, last_row_of, growth_last, last_row}
use Rattle.sheet.proofs.Places.{size_at, tag_is, row_is}

-- kits read before those of a run
unfoldable pub prepend : List Kit → paper.Run → paper.Run
prepend [] r = r
prepend (k ∷ ks) r = also k (prepend ks r)

prepend_last : (ks : List Kit) (k : Kit) (r : paper.Run) → prepend (ks ++ (k ∷ [])) r ≡ prepend ks (also k r)
unfolding prepend
prepend_last [] k r = refl
prepend_last (x ∷ ks) k r = ap (also x) (prepend_last ks k r)

prepend_stop : (ks : List Kit) (m : ℕ) (bs : List ℕ) (o : ℕ) →
    prepend ks (stop m bs o) ≡ record { kits = ks; rest = bs; offset = o; missing = m }
unfolding prepend
prepend_stop [] m bs o = refl
prepend_stop (x ∷ ks) m bs o = ap (also x) (prepend_stop ks m bs o)

records_none : (w parts : ℕ) (seen : List Kit) (bs : List ℕ) (o : ℕ) → records w 0 parts seen bs o ≡ stop 0 bs o
unfolding records
records_none w parts seen bs o = refl

records_faulty : (w m parts : ℕ) (seen : List Kit) (bs : List ℕ) (o : ℕ) →
    one (record_size w) (new_kit w parts seen) bs o ≡ fault o →
    records w (suc m) parts seen bs o ≡ stop (suc m) bs o
unfolding records unless
records_faulty w m parts seen bs o e = rw e

records_suc : (w m parts : ℕ) (seen : List Kit) (bs b rest : List ℕ) (o p : ℕ) →
    one (record_size w) (new_kit w parts seen) bs o ≡ item b rest p →
    records w (suc m) parts seen bs o ≡ also (kit_in w b) (records w m parts (kit_in w b ∷ seen) rest p)
unfolding records unless
records_suc w m parts seen bs b rest o p e = rw e

-- k of n records are read, and the next starts at a place; a place in a record takes w bytes
pub record Judging (w : ℕ) (s : List ℕ) (from parts n : ℕ) (marks : List ℕ) (prev : Row) (nodes at k : ℕ) : Type 0 where
  pub pre : List Kit
  pub seen : List Kit
  pub goes : records (place_bytes parts) n parts [] (drop from s) from ≡ prepend pre (records w (n - k) parts seen (drop at s) at)
  pub tags : Tags marks seen
  pub latest : Latest prev k seen
  pub many : length pre ≡ k
  pub count : nodes ≡ 1 + growth [] pre
  pub last : last_row_of [] pre ≡ units_in prev
  pub short : prev.len ≤ most_units
  pub inside : at ≤ length s
  pub few : nodes ≤ 1 + 64 * k
  pub board : length marks ≡ two_limit

no_tags : (marks : List ℕ) → ((t : ℕ) → get_or marks t 0 ≡ 0) → Tags marks []
unfolding anyb
no_tags marks z t h = rw (eq-eqb (get_or marks t 0) 0 (z t))

none_latest : (prev : Row) → Latest prev 0 []
unfolding Latest
none_latest prev = refl

none_grown : growth [] [] ≡ 0
unfolding growth
none_grown = refl

none_last : last_row_of [] [] ≡ []
unfolding last_row_of
none_last = refl

prepend_none : (r : paper.Run) → prepend [] r ≡ r
unfolding prepend
prepend_none r = refl

pub judging_start : (w : ℕ) (s : List ℕ) (from parts n : ℕ) (marks : List ℕ) (prev : Row) → w ≡ place_bytes parts → from ≤ length s →
    ((t : ℕ) → get_or marks t 0 ≡ 0) → length marks ≡ two_limit → units_in prev ≡ [] → prev.len ≡ 0 → Judging w s from parts n marks prev 1 from 0
judging_start w s from parts n marks prev v h z b u e = record {
  pre = [];
  seen = [];
  goes = rw (sub-zero, v) (sym (prepend_none (records (place_bytes parts) n parts [] (drop from s) from)));
  tags = no_tags marks z;
  latest = none_latest prev;
  many = refl;
  count = omega (arith, none_grown);
  last = none_last ∙ sym u;
  short = omega arith;
  inside = h;
  few = omega arith;
  board = b;
}

tag_one : (t : ℕ) (k : Kit) (seen : List Kit) → anyb (has_tag t) (k ∷ seen) ≡ (eqb t k.tag || anyb (has_tag t) seen)
unfolding anyb has_tag
tag_one t k seen = refl

new_latest : (row : Row) (k : ℕ) (x : Kit) (seen : List Kit) → units_in row ≡ x.row → Latest row (k + 1) (x ∷ seen)
unfolding Latest
new_latest row k x seen e = (omega arith, e)

module _ {w : ℕ} {s : List ℕ} {from parts n : ℕ} {marks : List ℕ} {prev : Row} {nodes at k : ℕ}
    (J : Judging w s from parts n marks prev nodes at k) where
  -- where it stops, the records read are the run
  stopped : Bytes (drop from s) → {m : ℕ} → n ≡ m → records w (n - k) parts J.seen (drop at s) at ≡ stop (n - k) (drop at s) at →
      record { kept = k; nodes = nodes; end = at } ≡ run_told (records (place_bytes parts) m parts [] (drop from s) from)
  unfolding run_told
  stopped b q e =
      let r : records (place_bytes parts) n parts [] (drop from s)
      from ≡ record { kits = J.pre; rest = drop at s; offset = at; missing = n - k } = J.goes ∙ rw e (prepend_stop J.pre (n - k) (drop at s) at) in
      let R = records_back (place_bytes parts) n parts [] (drop from s) from b in
      let i : rising J.pre ≡ true = new_kits_rise (rw r at R.news) in
      let g = growth_beginnings J.pre i in
      let c : nodes ≡ 1 + length (all_beginnings J.pre) = omega (arith, J.count) in
      rw (← q, r) (same_run (sym J.many) c)
    where
      same_run : {a b c d : ℕ} → a ≡ b → c ≡ d → ◌≡◌ {A = Run} (record { kept = a; nodes = c; end = at }) (record { kept = b; nodes = d; end = at })
      same_run e f = λ t. record { kept = e t; nodes = f t; end = at }

  -- at a record at fault
  pub judging_fault : Bytes (drop from s) → {m : ℕ} → n ≡ m → k < n → one (record_size w) (new_kit w parts J.seen) (drop at s) at ≡ fault at →
      record { kept = k; nodes = nodes; end = at } ≡ run_told (records (place_bytes parts) m parts [] (drop from s) from)
  judging_fault b q h e =
      let z : n - k ≡ suc (n - (k + 1)) = omega arith in
      stopped b q (rw z (records_faulty w (n - (k + 1)) parts J.seen (drop at s) at e))

  -- behind the last that is announced
  pub judging_all : Bytes (drop from s) → {m : ℕ} → n ≡ m → n ≡ k →
      record { kept = n; nodes = nodes; end = at } ≡ run_told (records (place_bytes parts) m parts [] (drop from s) from)
  judging_all b q e =
      let z : n - k ≡ 0 = omega arith in
      let all = stopped b q (rw z (records_none w parts J.seen (drop at s) at)) in
      rw (← e) at all

  -- one record more
  module _ (h : k < n) (there : WholeAt w s at) (good : new_kit w parts J.seen (record_at w s at) ≡ true) (row : Row)
      (is_row : row ≡ fixed_row (units (list_at w s at))) (fits : length (units (list_at w s at)) ≤ most_units)
      (t : ℕ) (tag_read : t ≡ from_bytes (take two_bytes (drop at s))) (small : t < two_limit) (g : ℕ)
      (alike : g ≡ agreed (units_in prev) (units_in row)) (r : ℕ) (ends : r ≡ at + record_size w (drop at s)) where
    abbrev kit : Kit
    kit = kit_in w (record_at w s at)

    row_read : units_in row ≡ kit.row
    row_read = rw is_row (row_back (units (list_at w s at))) ∙ sym (row_is w s at)

    tag_here : kit.tag ≡ t
    tag_here = tag_is w s at ∙ sym tag_read

    mark_tag : Tags (set marks t 1) (kit ∷ J.seen)
    mark_tag u v = tag_one u kit J.seen ∙ rw tag_here (go (eqb u t) refl)
      where
        go : (x : Bool) → eqb u t ≡ x → (x || anyb (has_tag u) J.seen) ≡ not (is_zero (get_or (set marks t 1) u 0))
        go true e =
            let p : u ≡ t = eqb-true u t e in
            let q : get_or (set marks t 1) u 0 ≡ 1 = rw p (get_or-set_same marks t 1 0 (omega (arith, J.board))) in
            rw q
        go false e = rw (get_or-set_other marks t u 1 0 (eqb-false u t e)) (J.tags u v)

    pub judging_on : Judging w s from parts n (set marks t 1) row (nodes + (row.len - g)) r (k + 1)
    judging_on =
        let z : n - k ≡ suc (n - (k + 1)) = omega arith in
        let i = one_ok (record_size w) (new_kit w parts J.seen) (drop at s) at
        (omega (arith, size_at w s at, length-drop at s)) good in
        let d : drop (record_size w (drop at s)) (drop at s) ≡ drop r s = drop-drop (record_size w (drop at s)) at s ∙ ap
        (λ (x : ℕ). drop x s) (sym ends) in
        let m = records_suc w (n - (k + 1)) parts J.seen (drop at s) (record_at w s at) (drop (record_size w (drop at s)) (drop at s))
        at (at + record_size w (drop at s)) i in
        let b = rw (d, ← ends) at m in
        let len : row.len ≡ length kit.row = rw is_row (sym (ap length (row_is w s at))) in
        let a : agreed (last_row_of [] J.pre) kit.row ≡ g = rw (J.last, ← row_read) (sym alike) in
        record {
          pre = J.pre ++ (kit ∷ []);
          seen = kit ∷ J.seen;
          goes =
              J.goes ∙ rw (z, b) (sym (prepend_last J.pre kit (records w (n - (k + 1)) parts (kit ∷ J.seen) (drop r s) r)));
          tags = mark_tag;
          latest = new_latest row k kit J.seen row_read;
          many = length-append J.pre (kit ∷ []) ∙ (omega (arith, J.many));
          count = omega (arith, J.count, growth_last [] J.pre kit);
          last = last_row [] J.pre kit ∙ sym row_read;
          short = rw is_row fits;
          inside = omega (arith, size_at w s at);
          few = let q : row.len ≤ 64 = rw is_row fits in omega (arith, J.few);
          board = length-set marks t 1 ∙ J.board;
        }

-- the kit count, and what follows it
module _ (s : List ℕ) (at : ℕ) (ps : List (List ℕ)) where
  pub count_short : at ≤ length s → length s - at < 2 → Err at ≡ judged_of (behind_numbers ps (drop at s) at)
  unfolding judged_of behind_numbers onward
  count_short h k = let e = bytes_short two_bytes any_two s at h k in rw e

  pub count_read : (sheet : Sheet) (run : Run) → at + 2 ≤ length s → sheet.parts ≡ length ps → sheet.kits ≡ from_bytes (take two_bytes (drop at s)) →
      run ≡ run_told (records (place_bytes sheet.parts) sheet.kits sheet.parts [] (drop (at + 2) s) (at + 2)) →
      Ok (record { sheet = sheet; run = run }) ≡ judged_of (behind_numbers ps (drop at s) at)
  unfolding behind_numbers onward judged_of run_told salvaged run_of
  count_read sheet run h e f g =
      let i = bytes_ok two_bytes any_two s at h (any_good (take two_bytes (drop at s))) in
      rw i (ap₂ told (same_sheet e f) (rw (e, f) at g))
    where
      told : Sheet → Run → Judged
      told sheet run = Ok (record { sheet = sheet; run = run })

      same_sheet : {n m : ℕ} → sheet.parts ≡ n → sheet.kits ≡ m → sheet ≡ record { parts = n; kits = m }
      same_sheet p q = λ t. record { parts = p t; kits = q t }

-- the numbers, and what follows them
pub numbers_fault : (s : List ℕ) (n o : ℕ) → numbers n [] (drop head_bytes s) head_bytes ≡ fault o →
    Err o ≡ judged_of (onward (numbers n [] (drop head_bytes s) head_bytes) behind_numbers)
unfolding judged_of onward
numbers_fault s n o e = rw e

pub numbers_read : (s : List ℕ) (n at : ℕ) (N : Numbered s n at) →
    judged_of (behind_numbers N.ns (drop at s) at) ≡ judged_of (onward (numbers n [] (drop head_bytes s) head_bytes) behind_numbers)
unfolding onward
numbers_read s n at N = let e = N.goes in rw e

pub judged_fault : (s : List ℕ) (o : ℕ) → salvage s ≡ fault o → Err o ≡ judged_of (salvage s)
unfolding judged_of
judged_fault s o e = rw e
