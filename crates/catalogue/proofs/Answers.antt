-- What each call answers, refusal by refusal, once what it is lent was checked: the promise of the work behind the checks, put behind the
-- refusals that passed.
use mathlib.Core.Path.{◌≡◌, refl, sym, ap, ◌∙◌}
use mathlib.Core.Logic.{◌≢◌}
use mathlib.Core.Bool.{Bool, true, false, not}
use mathlib.Core.List.{List, [], ◌∷◌, ◌++◌, append_assoc}
use Prim.Native.Nat.{ℕ, ◌≤◌, ◌<◌}
use native.Mathlib.Omega.{arith}
use lib.ListN.{length}
use lib.Dec.{ltb, leb}
use borrow.Author.Tests.{leb-true, leb-false, lt-ltb, le-ltb, eq-eqb, ne_eqb}
use Rattle.ground.specs.Lists.{is_zero}
use Rattle.ground.specs.Laid.{zeroed}
use Rattle.ground.specs.Calls.{Case, given, plan, Reply, done, refused, is_refused, decide, answer, Promise, set_down, Both, set_both}
use Rattle.ground.proofs.Calls.{promise_first, promise_front, promise_behind, promise_part, promise_refused, promise_done, first_refuses}
use Rattle.ground.proofs.Calls.{first_passes, whole_refuses, whole_passes, set_down_behind, set_both_behind}
use Rattle.kits.specs.Kits.{most_units, most_place, units, good_list, list_faults, fixed_row, units_in}
use Rattle.kits.specs.Inner.{GoodRow}
use Rattle.kits.specs.declared.Row.{Row}
use Rattle.kits.proofs.Rows.{row_back}
use Rattle.kits.proofs.Units.{good_row}
use Rattle.nodes.specs.Inner.{Sound}
use Rattle.nodes.specs.Held.{Kit, held, listed, tag_in, count_beginning}
use Rattle.nodes.proofs.Held.{held_good}
use Rattle.nodes.proofs.Listing.{tag_none}
use Rattle.nodes.proofs.Tallies.{count_long}
use Rattle.nodes.proofs.Units.{units_count}
use Rattle.index_insert.specs.Enter.{enter, lacks}
use Rattle.index.specs.Index.{entry_refusals, missing_refusals}
use Rattle.index.specs.Inner.{inserting_row, finding_row, deleting_row}
use Rattle.questions.specs.Questions.{any_of, all_of}
use Rattle.shortfalls.specs.Shortfalls.{most_short, almost_tags, almost_shorts, list_almost}
use Rattle.pages.specs.Pages.{good_bookmark, turn_page}
use Rattle.pages.specs.declared.Bookmark.{Bookmark}
use Rattle.sheet.specs.Sheet.{encode}
use Rattle.sheet.specs.Reading.{Salvage, salvage, rescued}
use Rattle.sheet.specs.Calls as sheet
use Rattle.sheet.specs.declared.Report.{Report}
use Rattle.sheet_read.specs.Inner as filling
use Rattle.sheet_read.specs.declared.Salvaged.{Salvaged}
use Rattle.sheet_read.proofs.Promised.{reported_refused}
use Rattle.answers.specs.Answers.{Answer, reply}
use Rattle.ground.specs.Tables.{Tables, tables}
use Rattle.tables.specs.Lent.{part_count, lengths, lent_both, lent_list}
use Rattle.catalogue.specs.Calls.{contents, emptying, inserting, finding, deleting, counting, any_kit, all_kits, almost_kits, turning}
use Rattle.catalogue.specs.Calls.{writing, reading, salvaging, Rescues}

-- the row of a list that has room, as it is lent on by value
module _ (w : Row) (l : List ℕ) (is : w ≡ fixed_row (units l)) where
  pub row_units : units_in w ≡ units l
  row_units = ap units_in is ∙ row_back (units l)

  pub row_short_lem : length (units l) ≤ most_units → w.len ≤ most_units
  row_short_lem h = rw is h

  pub row_good : good_list most_place l ≡ true → length (units l) ≤ most_units → GoodRow most_place (units_in w)
  row_good g h = rw row_units (good_row most_place l g h)

-- one refusal that is not given
alone : (b : Bool) (n v : ℕ) → b ≡ false → is_refused (decide (given b n v ∷ []) 0) ≡ false
unfolding decide
alone b n v e = rw e

-- one refusal that is given
at_once : (b : Bool) (n v : ℕ) (ds : List Case) (w : ℕ) → b ≡ true → decide (given b n v ∷ ds) w ≡ refused n v
unfolding decide
at_once b n v ds w e = rw e

module _ (R N : List ℕ) where
  -- Emptying
  pub empty_refused : (r : Reply) → r ≡ decide (lengths (tables R N)) 0 → is_refused r ≡ true →
      Promise (emptying (tables R N)) (tables R N) r (tables R N)
  unfolding emptying answer
  empty_refused r is e = promise_first (emptying (tables R N)) (tables R N) r e is

  pub empty_done : (r : Reply) (R' N' : List ℕ) → r ≡ decide (lengths (tables R N)) 0 → is_refused r ≡ false → R' ≡ zeroed R →
      N' ≡ zeroed N → Promise (emptying (tables R N)) (tables R N) (done 0) (tables R' N')
  unfolding emptying answer
  empty_done r R' N' is e f g =
      rw (f, g) (promise_done (emptying (tables R N)) (tables R N) 0 _ (whole_passes r (lengths (tables R N)) 0 0 is e) refl)

  -- Reading a sheet
  module _ (s : List ℕ) (r : Reply) (is : r ≡ decide (lengths (tables R N)) 0) where
    pub read_refused : is_refused r ≡ true → Promise (reading s (tables R N)) (tables R N) r (tables R N)
    unfolding reading
    read_refused e = promise_front (lengths (tables R N)) _ _ _ (tables R N) r 0 is e

    pub read_done : (p : Reply) (T' : Tables) → is_refused r ≡ false → Promise (filling.reading_into s (tables R N)) (tables R N) p T' →
        Promise (reading s (tables R N)) (tables R N) p T'
    unfolding reading filling.reading_into
    read_done p T' e i = promise_behind (lengths (tables R N)) _ _ _ (tables R N) p T' 0 (ap is_refused (sym is) ∙ e) i

  -- Salvaging one
  module _ (s : List ℕ) (a : Answer) (is : reply a ≡ decide (lengths (tables R N)) 0) where
    pub rescue_refused : (p : Report) (x : Salvage) → is_refused (reply a) ≡ true → p ≡ sheet.report_of (reply a) x →
        Rescues s R N (record { answer = a; report = p }) R N
    unfolding salvaging
    rescue_refused p x e f = record {
      promised = promise_front (lengths (tables R N)) _ _ _ (tables R N) (reply a) 0 is e;
      reported = reported_refused (reply a) x (rescued (salvage s)) e f;
    }

    pub rescue_done : (x : Salvaged) (R' N' : List ℕ) → is_refused (reply a) ≡ false →
        filling.SalvagePromise s (tables R N) x (tables R' N') → Rescues s R N x R' N'
    unfolding salvaging filling.salvaging_into
    rescue_done x R' N' e i = record {
      promised = promise_behind (lengths (tables R N)) _ _ _ (tables R N) _ _ 0 (ap is_refused (sym is) ∙ e) i.promised;
      reported = i.reported;
    }

  -- Writing the sheet
  pub write_refused : (o : List ℕ) (r : Reply) → r ≡ decide (lent_both (tables R N)) 0 → is_refused r ≡ true →
      Promise (writing (tables R N) o) o r o
  unfolding writing set_down
  write_refused o r is e = promise_front (lent_both (tables R N)) _ _ _ o r 0 is e

  pub write_done : (o w : List ℕ) (r q : Reply) → r ≡ decide (lent_both (tables R N)) 0 → is_refused r ≡ false →
      Promise (sheet.writing_of (contents (tables R N)) o) o q w → Promise (writing (tables R N) o) o q w
  unfolding writing sheet.writing_of
  write_done o w r q is e p = set_down_behind (lent_both (tables R N)) 0 (encode (contents (tables R N))) o (whole_passes r _ 0 0 is e) p

  module _ (l : List ℕ) where
    -- "A list of more than 64 units is .. simply not held"
    pub long_not_held : Sound most_place N → leb (length (units l)) most_units ≡ false → tag_in (units l) (held N) ≡ 0
    long_not_held s h =
        tag_none (units l) (held N)
        (λ k m e. absurd (let g = (held_good s.shape k m).short in let z = leb-false (length (units l)) most_units h in let y = ap length
        e in omega arith))

    missing : (v : ℕ) → tag_in (units l) (held N) ≡ 0 → decide (missing_refusals (units l) N) v ≡ refused 11 0
    unfolding missing_refusals
    missing v z = at_once _ 11 0 [] v (ap is_zero z)

    -- Finding
    module _ (r : Reply) (is : r ≡ decide (lent_list (tables R N) l) 0) where
      pub find_refused : is_refused r ≡ true → r ≡ answer (finding l (tables R N))
      unfolding finding answer
      find_refused e = first_refuses r _ _ 0 _ is e

      pub find_long : is_refused r ≡ false → Sound most_place N → leb (length (units l)) most_units ≡ false →
          refused 11 0 ≡ answer (finding l (tables R N))
      unfolding finding answer
      find_long e s h =
          sym (first_passes r (lent_list (tables R N) l) (missing_refusals (units l) N) 0 _ is e ∙ missing _ (long_not_held s h))

      pub find_done : (us : List ℕ) → is_refused r ≡ false → us ≡ units l → answer (finding_row us N) ≡ answer (finding l (tables R N))
      unfolding finding finding_row answer
      find_done us e row = rw row (sym (first_passes r (lent_list (tables R N) l) (missing_refusals (units l) N) 0 _ is e))

      -- Deleting
      pub delete_refused : is_refused r ≡ true → Promise (deleting l (tables R N)) (tables R N) r (tables R N)
      unfolding deleting
      delete_refused e = promise_front (lent_list (tables R N) l) _ _ _ (tables R N) r 0 is e

      pub delete_long : is_refused r ≡ false → Sound most_place N → leb (length (units l)) most_units ≡ false →
          Promise (deleting l (tables R N)) (tables R N) (refused 11 0) (tables R N)
      unfolding deleting answer
      delete_long e s h =
          promise_behind (lent_list (tables R N) l) (missing_refusals (units l) N) _ _ (tables R N) _ _ 0 (ap is_refused (sym is) ∙ e)
          (promise_refused (plan (missing_refusals (units l) N) _ _) (tables R N) 11 0 (missing _ (long_not_held s h)))

      pub delete_done : (us : List ℕ) (q : Reply) (N' : List ℕ) → is_refused r ≡ false → us ≡ units l → Promise (deleting_row us N) N q N' →
          Promise (deleting l (tables R N)) (tables R N) q (tables R N')
      unfolding deleting deleting_row
      delete_done us q N' e row p =
          promise_behind (lent_list (tables R N) l) (missing_refusals (units l) N) _ _ (tables R N) _ _ 0 (ap is_refused (sym is) ∙ e)
          (promise_part (tables R) (deleting_row (units l) N) N q N' (rw row at p))

      -- Counting
      pub count_done : (us : List ℕ) (n : ℕ) → is_refused r ≡ false → us ≡ units l → n ≡ count_beginning us (listed N) →
          done n ≡ answer (counting l (tables R N))
      unfolding counting answer
      count_done us n e row f =
          ap done (f ∙ ap (λ (u : List ℕ). count_beginning u (listed N)) row)
          ∙ sym (whole_passes r (lent_list (tables R N) l) 0 (count_beginning (units l) (listed N)) is e)

      pub count_too_long : is_refused r ≡ false → Sound most_place N → leb (length (units l)) most_units ≡ false →
          done 0 ≡ answer (counting l (tables R N))
      unfolding listed
      count_too_long e s h =
          let g = leb-false (length (units l)) most_units h in
          count_done (units l) 0 e refl (sym (units_count (units l) (held N) (omega (arith, g)) ∙ count_long s.shape (units l) g))

      pub count_refused : is_refused r ≡ true → r ≡ answer (counting l (tables R N))
      unfolding counting answer
      count_refused e = whole_refuses r _ 0 _ is e

      -- The questions
      module _ (question : List ℕ → Kit → Bool) where
        pub any_refused : is_refused r ≡ true → r ≡ answer (any_kit question l (tables R N))
        unfolding any_kit answer
        any_refused e = whole_refuses r _ 0 _ is e

        pub any_done : (t : ℕ) → is_refused r ≡ false → t ≡ any_of question l N → done t ≡ answer (any_kit question l (tables R N))
        unfolding any_kit answer
        any_done t e f = ap done f ∙ sym (whole_passes r (lent_list (tables R N) l) 0 (any_of question l N) is e)

        pub all_refused : (o : List ℕ) → is_refused r ≡ true → Promise (all_kits question l (tables R N) o) o r o
        unfolding all_kits set_down
        all_refused o e = promise_front (lent_list (tables R N) l) _ _ _ o r 0 is e

        pub all_done : (o w : List ℕ) (q : Reply) → is_refused r ≡ false → Promise (set_down [] (all_of question l N) o) o q w →
            Promise (all_kits question l (tables R N) o) o q w
        unfolding all_kits
        all_done o w q e p = set_down_behind (lent_list (tables R N) l) 0 (all_of question l N) o (whole_passes r _ 0 0 is e) p

      -- Kits that a bin almost fills
      module _ (d : ℕ) (o : Both) where
        abbrev too_far : List Case
        too_far = given (ltb most_short d) 14 0 ∷ []

        pub almost_refused : is_refused r ≡ true → Promise (almost_kits d l (tables R N) o) o r o
        unfolding almost_kits set_both
        almost_refused e = rw append_assoc (promise_front (lent_list (tables R N) l) _ _ _ o r 0 is e)

        pub almost_too_far : is_refused r ≡ false → most_short < d → Promise (almost_kits d l (tables R N) o) o (refused 14 0) o
        unfolding almost_kits set_both answer
        almost_too_far e h =
            rw append_assoc (promise_behind (lent_list (tables R N) l) _ _ _ o (refused 14 0) o 0 (ap is_refused (sym is) ∙ e)
            (promise_refused (plan _ _ _) o 14 0 (at_once (ltb most_short d) 14 0 _ _ (lt-ltb most_short d h))))

        near_passes : is_refused r ≡ false → d ≤ most_short → decide (lent_list (tables R N) l ++ too_far) 0 ≡ done 0
        unfolding decide
        near_passes e h = first_passes r (lent_list (tables R N) l) too_far 0 0 is e ∙ rw (le-ltb most_short d h)

        pub almost_done : (q : Reply) (m : Both) → is_refused r ≡ false → d ≤ most_short → Promise (list_almost [] d l N o) o q m →
            Promise (almost_kits d l (tables R N) o) o q m
        unfolding almost_kits
        almost_done q m e h p =
            set_both_behind (lent_list (tables R N) l ++ too_far) 0 (almost_tags d l N) (almost_shorts d l N) o (near_passes e h) p

      -- Turning a page
      module _ (question : List ℕ → Kit → Bool) (b : Bookmark) where
        abbrev good : Bool
        good = good_bookmark (part_count (tables R N)) b

        pub page_refused : is_refused r ≡ true → Promise (turning question l (tables R N) b) b r b
        unfolding turning turn_page
        page_refused e = promise_front (lent_list (tables R N) l) _ _ _ b r 0 is e

        module _ (e : is_refused r ≡ false) where
          -- behind the checks of the tables and the list
          behind_lent : (q : Reply) (m : Bookmark) → Promise (turn_page (given (not good) 15 0 ∷ []) question l N b) b q m →
              Promise (turning question l (tables R N) b) b q m
          unfolding turning turn_page
          behind_lent q m p = promise_behind (lent_list (tables R N) l) _ _ _ b q m 0 (ap is_refused (sym is) ∙ e) p

          pub page_bad_bookmark : good ≡ false → Promise (turning question l (tables R N) b) b (refused 15 0) b
          unfolding turn_page answer
          page_bad_bookmark h = behind_lent _ _ (promise_refused (plan _ _ _) b 15 0 (at_once (not good) 15 0 [] _ (ap not h)))

          pub page_done : (q : Reply) (m : Bookmark) → good ≡ true → Promise (turn_page [] question l N b) b q m →
              Promise (turning question l (tables R N) b) b q m
          unfolding turn_page
          page_done q m h p =
              behind_lent q m (promise_behind (given (not good) 15 0 ∷ []) [] _ _ b q m 0 (alone (not good) 15 0 (ap not h)) p)

    -- Inserting
    module _ (t : ℕ) (r : Reply) (is : r ≡ decide (lent_both (tables R N)) 0) where
      pub insert_refused : is_refused r ≡ true → Promise (inserting l t (tables R N)) (tables R N) r (tables R N)
      unfolding inserting
      insert_refused e = promise_front (lent_both (tables R N)) _ _ _ (tables R N) r 0 is e

      module _ (e : is_refused r ≡ false) where
        -- behind the checks of the tables
        behind_both : (s : Reply) (T' : Tables) →
            Promise (plan (given (is_zero t) 8
            0 ∷ (list_faults (part_count (tables R N)) l ++ (given (ltb most_units (length (units l))) 7 0 ∷ entry_refusals (units l) t N)))
            (lacks N 0 (units l)) (tables R (enter N (units l) t))) (tables R N) s T' →
            Promise (inserting l t (tables R N)) (tables R N) s T'
        unfolding inserting
        behind_both s T' p = promise_behind (lent_both (tables R N)) _ _ _ (tables R N) s T' 0 (ap is_refused (sym is) ∙ e) p

        pub insert_no_tag : t ≡ 0 → Promise (inserting l t (tables R N)) (tables R N) (refused 8 0) (tables R N)
        unfolding answer
        insert_no_tag z = behind_both _ _ (promise_refused (plan _ _ _) (tables R N) 8 0 (at_once (is_zero t) 8 0 _ _ (eq-eqb t 0 z)))

        module _ (some : t ≢ 0) where
          behind_tag : (s : Reply) (T' : Tables) →
              Promise (plan (list_faults (part_count (tables R N)) l
              ++ (given (ltb most_units (length (units l))) 7 0 ∷ entry_refusals (units l) t N)) (lacks N 0 (units l))
              (tables R (enter N (units l) t))) (tables R N) s T' →
              Promise (inserting l t (tables R N)) (tables R N) s T'
          behind_tag s T' p =
              behind_both s T' (promise_behind (given (is_zero t) 8 0 ∷ []) _ _ _ (tables R N) s T' 0
              (alone (is_zero t) 8 0 (ne_eqb t 0 some)) p)

          module _ (q : Reply) (typed : q ≡ decide (list_faults (part_count (tables R N)) l) 0) where
            pub insert_mistyped : is_refused q ≡ true → Promise (inserting l t (tables R N)) (tables R N) q (tables R N)
            insert_mistyped f = behind_tag _ _ (promise_front (list_faults (part_count (tables R N)) l) _ _ _ (tables R N) q 0 typed f)

            module _ (f : is_refused q ≡ false) where
              behind_list : (s : Reply) (T' : Tables) →
                  Promise (plan (given (ltb most_units (length (units l))) 7 0 ∷ entry_refusals (units l) t N) (lacks N 0 (units l))
                  (tables R (enter N (units l) t))) (tables R N) s T' →
                  Promise (inserting l t (tables R N)) (tables R N) s T'
              behind_list s T' p =
                  behind_tag s T' (promise_behind (list_faults (part_count (tables R N)) l) _ _ _ (tables R N) s T' 0
                  (ap is_refused (sym typed) ∙ f) p)

              pub insert_too_many : leb (length (units l)) most_units ≡ false →
                  Promise (inserting l t (tables R N)) (tables R N) (refused 7 0) (tables R N)
              unfolding answer
              insert_too_many h =
                  behind_list _ _ (promise_refused (plan _ _ _) (tables R N) 7 0
                  (at_once (ltb most_units (length (units l))) 7 0 _ _
                  (lt-ltb most_units (length (units l)) (leb-false (length (units l)) most_units h))))

              pub insert_done : (us : List ℕ) (p : Reply) (N' : List ℕ) → leb (length (units l)) most_units ≡ true → us ≡ units l →
                  Promise (inserting_row us t N) N p N' → Promise (inserting l t (tables R N)) (tables R N) p (tables R N')
              unfolding inserting_row
              insert_done us p N' h row i =
                  behind_list _ _ (promise_behind (given (ltb most_units (length (units l))) 7 0 ∷ []) _ _ _ (tables R N) p (tables R N') 0
                  (alone (ltb most_units (length (units l))) 7 0
                  (le-ltb most_units (length (units l)) (leb-true (length (units l)) most_units h)))
                  (promise_part (tables R) (inserting_row (units l) t N) N p N' (rw row at i)))
