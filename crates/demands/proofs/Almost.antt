-- Request 1 from any list of calls: the kits that a bin almost fills, in terms of what the accepted calls left.
use mathlib.Core.Path.{◌≡◌, sym, ap, subst, ◌∙◌}
use mathlib.Core.List.{List, [], ◌∷◌, ◌++◌, append_assoc, Memᴰ}
use Prim.Native.Nat.{ℕ, ◌≤◌}
use native.Mathlib.Omega.{arith}
use lib.ListN.{length, drop, length-map}
use lib.Dec.{ltb}
use borrow.Author.Tests.{le-ltb}
use Rattle.ground.specs.Calls.{Case, given, Plan, done, decide, answer, memory, Promise, Both, both, set_both}
use Rattle.ground.specs.Laid.{laid}
use Rattle.ground.proofs.Calls.{decide_behind, set_both_done, set_both_behind}
use Rattle.ground.proofs.Laid.{laid_front}
use Rattle.kits.specs.Kits.{most_place, units, list_faults}
use Rattle.kits.specs.Inner.{GoodRow}
use Rattle.nodes.specs.Held.{Kit, kits_in_order, tags_of}
use Rattle.nodes.proofs.Listing.{tags_long}
use Rattle.nodes.proofs.Units.{listed_good}
use Rattle.nodes.proofs.Beginnings.{widen}
use Rattle.questions.specs.Questions.{all_of}
use Rattle.shortfalls.specs.Shortfalls.{most_short, shortfall, short_of, is_almost, shorts_of}
use Rattle.shortfalls.proofs.Meaning as almost
use Rattle.sheet.specs.Sheet.{Contents}
use Rattle.ground.specs.Tables.{Tables}
use Rattle.tables.specs.Lent.{lent_both, lent_list}
use Rattle.tables.proofs.Lent.{few_parts_lem}
use Rattle.catalogue.specs.Calls.{almost_kits}
use Rattle.demands.specs.Model.{entered, answering, almost_of}
use Rattle.demands.specs.Almost.{AnsweringAlmost, ShownInStep, ZeroIsWithin, NothingLeaves, MostIsAll, AlmostAnswers, AlmostShows}
use Rattle.demands.proofs.Brought.{Brought, brought}
use Rattle.demands.proofs.Answers.{answers_exactly, room_answer, room_memory, the_fitting, the_faults}

------------------------------------------------------------------------
-- The kits

pub answering_almost : AnsweringAlmost
answering_almost d bin m k = answers_exactly (is_almost d) (λ u k. shortfall u k.row ≤ d) (almost.almost_asks d) bin m k

pub shown_in_step : ShownInStep
shown_in_step bin ks i h = almost.in_step bin ks i h

pub nothing_leaves : NothingLeaves
unfolding answering
nothing_leaves d e bin m h = almost.almost_grows (units bin) (kits_in_order m.kits) d e h

-- what a catalogue has are good rows
good_rows : {T : Tables} {m : Contents} → Brought T m → (k : Kit) → Memᴰ k (kits_in_order m.kits) → GoodRow most_place k.row
good_rows {T} b k i = listed_good (widen (few_parts_lem T.register b.both.ready) b.both.sound).shape k (subst (Memᴰ k) (sym b.kits) i)

pub zero_is_within : ZeroIsWithin
unfolding answering
zero_is_within a bin h =
    let ks = kits_in_order (entered a).kits in
    (almost.zero_is_within (units bin) ks (good_rows (brought a h)), almost.zero_shorts (units bin) ks)

pub most_is_all : MostIsAll
unfolding answering
most_is_all a bin h = almost.most_is_all (units bin) (kits_in_order (entered a).kits) (good_rows (brought a h))

------------------------------------------------------------------------
-- The call

-- "new 14, d above 64"
abbrev too_far : ℕ → List Case
too_far d = given (ltb most_short d) 14 0 ∷ []

module _ {T : Tables} {m : Contents} (b : Brought T m) (d : ℕ) (bin : List ℕ) (o : Both) where
  abbrev faults : List Case
  faults = list_faults (length m.parts) bin ++ too_far d

  abbrev kits : List Kit
  kits = answering (is_almost d) bin m

  -- its plan is that of what the catalogue has, behind the refusals of the tables
  behind_both : almost_kits d bin T o ≡ set_both (lent_both T ++ faults) (tags_of kits) (shorts_of (units bin) kits) o
  unfolding almost_kits lent_list all_of
  behind_both =
      let f = the_fitting b (is_almost d) bin in
      let g = the_faults b (is_almost d) bin in
      rw (f, g, append_assoc (lent_both T) (list_faults (length m.parts) bin) (too_far d))

  pub almost_answer : answer (almost_kits d bin T o) ≡ answer (almost_of d bin m o)
  unfolding set_both
  almost_answer = ap answer behind_both ∙ room_answer b faults _ (length (tags_of kits)) _ o

  pub almost_memory : memory (almost_kits d bin T o) o ≡ memory (almost_of d bin m o) o
  unfolding set_both
  almost_memory = ap (λ (p : Plan Both). memory p o) behind_both ∙ room_memory b faults _ (length (tags_of kits)) _ o

pub almost_answers : AlmostAnswers
almost_answers a d bin o h = (almost_answer (brought a h) d bin o, almost_memory (brought a h) d bin o)

-- with room: both set down, and what lies behind stays
shorts_long : (bin : List ℕ) (ks : List Kit) → length (shorts_of bin ks) ≡ length ks
unfolding shorts_of
shorts_long bin ks = length-map ks (short_of bin)

module _ (cs : List Case) (bin : List ℕ) (ks : List Kit) (o p : List ℕ) (f : length ks ≤ length o) (g : length ks ≤ length p) where
  shown_both : decide cs 0 ≡ done 0 →
      Promise (set_both cs (tags_of ks) (shorts_of bin ks) (both o p)) (both o p)
      (done (length ks)) (both (tags_of ks ++ drop (length ks) o) (shorts_of bin ks ++ drop (length ks) p))
  shown_both e =
      let t = tags_long ks in
      let s = shorts_long bin ks in
      let u : laid o 0 (tags_of ks) ≡ tags_of ks ++ drop (length ks) o = laid_front o (tags_of ks) (omega arith) ∙ ap (λ n. tags_of ks ++ drop n o) t in
      let v : laid p 0 (shorts_of bin ks) ≡ shorts_of bin ks ++ drop (length ks) p = laid_front p (shorts_of bin ks) (omega arith) ∙ ap
      (λ n. shorts_of bin ks ++ drop n p) s in
      rw (← u, ← v, ← t)
      (set_both_behind cs 0 (tags_of ks) (shorts_of bin ks) (both o p) e
      (set_both_done (tags_of ks) (shorts_of bin ks) (both o p) (omega arith)))

near_enough : (cs : List Case) (d : ℕ) → decide cs 0 ≡ done 0 → d ≤ most_short → decide (cs ++ too_far d) 0 ≡ done 0
unfolding decide
near_enough cs d e h = decide_behind cs (too_far d) 0 0 e ∙ rw (le-ltb most_short d h)

pub almost_shows : AlmostShows
almost_shows a d bin o p h good near f g =
    let b = brought a h in
    let cs = list_faults (length (entered a).parts) bin in
    let s = shown_both (cs ++ too_far d) (units bin) (answering (is_almost d) bin (entered a)) o p f g (near_enough cs d good near) in
    (almost_answer b d bin (both o p) ∙ sym s.answers, almost_memory b d bin (both o p) ∙ sym s.lent)
