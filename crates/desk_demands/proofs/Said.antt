-- The numbers that the desk's replies have: those of the calls that its lines make, at tables that the desk's calls have left.
use mathlib.Core.Path.{◌≡◌, refl, sym, ap, subst, ◌∙◌}
use mathlib.Core.Bool.{true, false}
use mathlib.Core.List.{List, [], ◌∷◌, map}
use Prim.Native.Nat.{ℕ, suc, ◌≤◌}
use native.Mathlib.Omega.{arith}
use lib.ListN.{length, get_or, length-map}
use lib.Dec.{eqb, ltb}
use borrow.Author.Tests.{eqb-true, ltb-true}
use Rattle.ground.specs.Lists.{anyb, from, keep}
use Rattle.ground.specs.Calls.{Case, Plan, Reply, done, refused, number_of, decide, answer, set_down}
use Rattle.ground.specs.Tables.{Tables}
use Rattle.ground.proofs.Laws.{by_cond, length_from}
use Rattle.register.specs.Register.{slot_count, place_in}
use Rattle.register.specs.Calls.{looking_up}
use Rattle.kits.specs.Kits.{units, line_faults, lines_faults, list_faults}
use Rattle.nodes.specs.Nodes.{size, nodes_of, tagged}
use Rattle.nodes.specs.Held.{comes_before, kits_in_order, tags_of, kit_at, held}
use Rattle.nodes.proofs.Sorted.{Every, none as no_more, also, every_append, keep_short}
use Rattle.nodes.proofs.Listing.{tags_long}
use Rattle.nodes.proofs.Ordered.{order_length}
use Rattle.sheet.specs.Sheet.{Contents}
use Rattle.questions.specs.Questions.{is_within, is_containing}
use Rattle.catalogue.specs.Calls.{Call, Question, register_part, look_up, insert_kit, find_kit, delete_kit, any_within, any_containing, all_within}
use Rattle.catalogue.specs.Calls.{all_containing, write_sheet, plan_of, inserting, finding, deleting, any_kit}
use Rattle.demands.specs.Model.{answering, listing_of}
use Rattle.demands.specs.Demand1.{told}
use Rattle.demands.proofs.Values.{place_known}
use Rattle.demands.proofs.Brought.{Brought, brought}
use Rattle.demands.proofs.NeverEmpty.{AllListed, never_empty}
use Rattle.demands.proofs.Sizes.{sizes}
use Rattle.desk_lines.specs.Sizes.{desk_slots, desk_nodes, output_places}
use Rattle.desk_text.specs.Letters as letter
use Rattle.desk_text.specs.Amounts.{amount_of}
use Rattle.desk_text.specs.Lines.{Parsed, none, line, parsed}
use Rattle.desk_lists.specs.Typed.{Typed, typed, stopped, in_front_of, looked_up}
use Rattle.desk_lines.specs.Desk.{Answered, called, shown, register_line, write_line, with_list, call_of, asked, ask_line, at_desk}
use Rattle.desk_demands.specs.Made.{desk_of}
use Rattle.desk_demands.proofs.Made.{desk_is_catalogue}
use Rattle.desk_demands.proofs.Outputs.{done_value}
use Rattle.desk_demands.proofs.Told.{is_told}
use Rattle.desk_demands.specs.Demands.{numbers_of, Said, other, reply, NeverSaid}

-- a number is one of some
abbrev Among : List ℕ → ℕ → Type 0
Among ns n = anyb (eqb n) ns ≡ true

-- a refusal that is given has one of them
abbrev GivenAmong : List ℕ → Case → Type 0
GivenAmong ns c = c.test ≡ true → Among ns c.number

decided_among : (ns : List ℕ) (cs : List Case) (v : ℕ) → Among ns 0 → Every (GivenAmong ns) cs → Among ns (number_of (decide cs v))
unfolding decide
decided_among ns [] v h no_more = h
decided_among ns (c ∷ cs) v h (also g gs) =
    by_cond (λ (r : Reply). Among ns (number_of r)) c.test (refused c.number c.value) (decide cs v) g
    (λ _. decided_among ns cs v h gs)

-- places that are no greater than the number of parts
abbrev Known : ℕ → List ℕ → Type 0
Known n [] = Unit
Known n (p ∷ []) = Unit
Known n (p ∷ q ∷ l) = (p ≤ n) × Known n l

lines_among : (ns : List ℕ) (n prev k : ℕ) (l : List ℕ) → Among ns 4 → Among ns 6 → Known n l → Every (GivenAmong ns) (lines_faults n prev k l)
unfolding lines_faults line_faults
lines_among ns n prev k [] a b h = no_more
lines_among ns n prev k (p ∷ []) a b h = no_more
lines_among ns n prev k (p ∷ q ∷ l) a b h =
    also (λ _. a) (also (λ (t : ltb n p ≡ true). absurd (omega (arith, ltb-true n p t, h.0))) (also (λ _. b) (lines_among ns n p (suc k) l a b h.1)))

list_among : (ns : List ℕ) (n : ℕ) (l : List ℕ) → Among ns 4 → Among ns 6 → Known n l → Every (GivenAmong ns) (list_faults n l)
unfolding list_faults
list_among ns n l a b h = also (λ _. a) (lines_among ns n 0 1 l a b h)

-- what a typed list comes to: places that are known, or one of some numbers
abbrev TypedAmong : List ℕ → ℕ → Typed → Type 0
TypedAmong ns n (typed l) = Known n l
TypedAmong ns n (stopped k v) = Among ns k

front_among : (ns : List ℕ) (n : ℕ) (r : Reply) (q : ℕ) (t : Typed) → ((p : ℕ) → r ≡ done p → p ≤ n) → Among ns (number_of r) →
    TypedAmong ns n t → TypedAmong ns n (in_front_of r q t)
unfolding in_front_of
front_among ns n (refused k v) q t f g h = g
front_among ns n (done p) q (typed l) f g h = (f p refl, h)
front_among ns n (done p) q (stopped k v) f g h = h

-- Tables of the desk's size that have m
module _ {T : Tables} {m : Contents} (b : Brought T m) (all : AllListed T) (hs : slot_count T.register ≡ desk_slots)
    (hr : size T.nodes ≡ desk_nodes) where
  -- what a call answers is among some numbers if what is told is
  told_among : (ns : List ℕ) (c : Call) → Among ns (number_of (told desk_slots desk_nodes m c)) → Among ns (number_of (answer (plan_of c T)))
  told_among ns c h = subst (λ (r : Reply). Among ns (number_of r)) (sym (is_told b all hs hr c)) h

  -- P and W
  register_among : (n : List ℕ) → Among (numbers_of letter.registers) (number_of (answer (plan_of (register_part n) T)))
  unfolding told numbers_of anyb
  register_among n =
      told_among (numbers_of letter.registers) (register_part n)
      (decided_among (numbers_of letter.registers) _ _ refl (also (λ _. refl) (also (λ _. refl) (also (λ _. refl) (also (λ _. refl) no_more)))))

  write_among : (s : List ℕ) → Among (numbers_of letter.writes) (number_of (answer (plan_of (write_sheet s) T)))
  unfolding told numbers_of anyb answer set_down
  write_among s =
      told_among (numbers_of letter.writes) (write_sheet s)
      (decided_among (numbers_of letter.writes) _ _ refl (also (λ _. refl) no_more))

  -- a letter that takes a list has 0, 3, 4, 6 and 11 among its numbers
  module _ (ns : List ℕ) (a0 : Among ns 0) (a3 : Among ns 3) (a4 : Among ns 4) (a6 : Among ns 6) (a11 : Among ns 11) where
    look_among : (n : List ℕ) → Among ns (number_of (answer (plan_of (look_up n) T)))
    unfolding told
    look_among n = told_among ns (look_up n) (decided_among ns _ _ a0 (also (λ _. a3) (also (λ _. a11) no_more)))

    look_known : (n : List ℕ) (p : ℕ) → answer (plan_of (look_up n) T) ≡ done p → p ≤ length m.parts
    unfolding told place_in
    look_known n p e = omega (arith, done_value _ _ p (sym (is_told b all hs hr (look_up n)) ∙ e), place_known 1 n m.parts (omega arith))

    typed_among : (fs : List (List ℕ)) → TypedAmong ns (length m.parts) (looked_up T.register fs)
    unfolding looked_up plan_of answer
    typed_among [] = tt
    typed_among (n ∷ []) = tt
    typed_among (n ∷ q ∷ fs) =
        front_among ns _ (answer (looking_up n T.register)) (amount_of q) (looked_up T.register fs) (look_known n) (look_among n)
        (typed_among fs)

    module _ (l : List ℕ) (k : Known (length m.parts) l) where
      faults_among : Every (GivenAmong ns) (list_faults (length m.parts) l)
      faults_among = list_among ns (length m.parts) l a4 a6 k

      find_among : Among ns (number_of (answer (plan_of (find_kit l) T)))
      unfolding told
      find_among = told_among ns (find_kit l) (decided_among ns _ _ a0 (every_append faults_among (also (λ _. a11) no_more)))

      delete_among : Among ns (number_of (answer (plan_of (delete_kit l) T)))
      unfolding told
      delete_among = told_among ns (delete_kit l) (decided_among ns _ _ a0 (every_append faults_among (also (λ _. a11) no_more)))

      within_among : Among ns (number_of (answer (plan_of (any_within l) T)))
      unfolding told
      within_among = told_among ns (any_within l) (decided_among ns _ _ a0 faults_among)

      containing_among : Among ns (number_of (answer (plan_of (any_containing l) T)))
      unfolding told
      containing_among = told_among ns (any_containing l) (decided_among ns _ _ a0 faults_among)

      -- all kits have a place
      few_kits : length (kits_in_order m.kits) ≤ desk_nodes
      unfolding held nodes_of
      few_kits =
          let ends = keep (tagged T.nodes) (from 0 (size T.nodes)) in
          omega (
            arith,
            hr,
            ap length (all ∙ b.kits),
            order_length comes_before (map (kit_at T.nodes) ends),
            length-map ends (kit_at T.nodes),
            keep_short (tagged T.nodes) (from 0 (size T.nodes)),
            length_from 0 (size T.nodes),
          )

      listing_among : (question : Question) (o : List ℕ) → output_places ≤ length o →
          Among ns (number_of (answer (listing_of question l m o)))
      unfolding answer set_down answering
      listing_among question o h =
          let ks = keep (question (units l)) (kits_in_order m.kits) in
          decided_among ns _ _ a0 (every_append faults_among (also
          (λ (t : ltb (length o) (length (tags_of ks)) ≡ true).
          absurd (omega (arith, ltb-true (length o) (length (tags_of ks)) t, tags_long ks, keep_short (question (units l)) (kits_in_order m.kits), few_kits)))
          no_more))

      all_within_among : (o : List ℕ) → output_places ≤ length o → Among ns (number_of (answer (plan_of (all_within l o) T)))
      unfolding told
      all_within_among o h = told_among ns (all_within l o) (listing_among is_within o h)

      all_containing_among : (o : List ℕ) → output_places ≤ length o → Among ns (number_of (answer (plan_of (all_containing l o) T)))
      unfolding told
      all_containing_among o h = told_among ns (all_containing l o) (listing_among is_containing o h)

      insert_among : (t : ℕ) → Among ns 7 → Among ns 8 → Among ns 9 → Among ns 10 → Among ns 12 → Among ns 19 →
          Among ns (number_of (answer (plan_of (insert_kit l t) T)))
      unfolding told
      insert_among t a7 a8 a9 a10 a12 a19 =
          told_among ns (insert_kit l t)
          (decided_among ns _ _ a0
          (also (λ _. a8) (every_append faults_among
          (also (λ _. a7) (also (λ _. a19) (also (λ _. a9) (also (λ _. a10) (also (λ _. a12) no_more))))))))

------------------------------------------------------------------------
-- Lines

abbrev SaidBy : Answered → Type 0
SaidBy a = Said a.says

-- the numbers of a letter that takes a list
module _ (x : ℕ) (nr : eqb x letter.registers ≡ false) (nw : eqb x letter.writes ≡ false) where
  list_number : (n : ℕ) → Among (0 ∷ 3 ∷ 4 ∷ 6 ∷ 11 ∷ []) n → Among (numbers_of letter.inserts) n → Among (numbers_of x) n
  unfolding numbers_of
  list_number n f g = rw (nr, nw) (by_cond (λ (ns : List ℕ). Among ns n) (eqb x letter.inserts) _ _ (λ _. g) (λ _. f))

  insert_number : eqb x letter.inserts ≡ true → (n : ℕ) → Among (numbers_of letter.inserts) n → Among (numbers_of x) n
  insert_number h n g = subst (λ (y : ℕ). Among (numbers_of y) n) (sym (eqb-true x letter.inserts h)) g

module _ {T : Tables} {m : Contents} (b : Brought T m) (all : AllListed T) (hs : slot_count T.register ≡ desk_slots)
    (hr : size T.nodes ≡ desk_nodes) (o : List ℕ) (room : output_places ≤ length o) where
  module _ (x t : ℕ) (nr : eqb x letter.registers ≡ false) (nw : eqb x letter.writes ≡ false) where
    a0 : Among (numbers_of x) 0
    unfolding numbers_of anyb
    a0 = list_number x nr nw 0 refl refl

    a3 : Among (numbers_of x) 3
    unfolding numbers_of anyb
    a3 = list_number x nr nw 3 refl refl

    a4 : Among (numbers_of x) 4
    unfolding numbers_of anyb
    a4 = list_number x nr nw 4 refl refl

    a6 : Among (numbers_of x) 6
    unfolding numbers_of anyb
    a6 = list_number x nr nw 6 refl refl

    a11 : Among (numbers_of x) 11
    unfolding numbers_of anyb
    a11 = list_number x nr nw 11 refl refl

    -- a call with a list of known places
    module _ (l : List ℕ) (k : Known (length m.parts) l) where
      inserted : eqb x letter.inserts ≡ true → Among (numbers_of x) (number_of (answer (inserting l t T)))
      unfolding numbers_of anyb plan_of
      inserted h =
          let f = insert_number x nr nw h in
          insert_among b all hs hr (numbers_of x) a0 a3 a4 a6 a11 l k t (f 7 refl) (f 8 refl) (f 9 refl) (f 10 refl) (f 12 refl) (f 19 refl)

      called_among : Among (numbers_of x) (number_of (answer (call_of x t l T)))
      unfolding call_of plan_of
      called_among =
          let P : Plan Tables → Type 0 = λ p. Among (numbers_of x) (number_of (answer p)) in
          by_cond P (eqb x letter.inserts) (inserting l t T) _ inserted (λ _.
          by_cond P (eqb x letter.finds) (finding l T) _ (λ _. find_among b all hs hr (numbers_of x) a0 a3 a4 a6 a11 l k) (λ _.
          by_cond P (eqb x letter.deletes) (deleting l T) _ (λ _. delete_among b all hs hr (numbers_of x) a0 a3 a4 a6 a11 l k) (λ _.
          by_cond P (eqb x letter.any_within) (any_kit is_within l T) (any_kit is_containing l T)
          (λ _. within_among b all hs hr (numbers_of x) a0 a3 a4 a6 a11 l k)
          (λ _. containing_among b all hs hr (numbers_of x) a0 a3 a4 a6 a11 l k))))

      asked_said : SaidBy (asked x t o T l)
      unfolding asked called shown plan_of answer
      asked_said =
          by_cond SaidBy (eqb x letter.all_within) _ _
          (λ _. reply x _ _ _ (all_within_among b all hs hr (numbers_of x) a0 a3 a4 a6 a11 l k o room)) (λ _.
          by_cond SaidBy (eqb x letter.all_containing) _ _
          (λ _. reply x _ _ _ (all_containing_among b all hs hr (numbers_of x) a0 a3 a4 a6 a11 l k o room))
          (λ _. reply x _ _ _ called_among))

    with_said : (r : Typed) → TypedAmong (numbers_of x) (length m.parts) r → SaidBy (with_list x T (asked x t o T) r)
    unfolding with_list
    with_said (typed l) k = asked_said l k
    with_said (stopped n v) g = reply x n v [] g

    ask_said : (fs : List (List ℕ)) → SaidBy (ask_line x t fs o T)
    unfolding ask_line
    ask_said fs = with_said (looked_up T.register fs) (typed_among b all hs hr (numbers_of x) a0 a3 a4 a6 a11 fs)

  line_said : (p : Parsed) (s : List ℕ) → SaidBy (at_desk p o s T)
  unfolding at_desk register_line write_line called shown plan_of answer
  line_said none s = other
  line_said (line x t fs) s =
      by_cond SaidBy (eqb x letter.registers) _ _ (λ _. reply letter.registers _ _ _ (register_among b all hs hr (get_or fs 0 []))) (λ nr.
      by_cond SaidBy (eqb x letter.writes) _ _ (λ _. reply letter.writes _ _ _ (write_among b all hs hr s)) (λ nw.
      ask_said x t nr nw fs))

pub never_said : NeverSaid
unfolding desk_of
never_said input l o s room =
    let d = desk_is_catalogue input in
    let z = sizes (desk_of input) d.1 in
    subst (λ (T : Tables). SaidBy (at_desk (parsed l) o s T)) (sym d.0)
    (line_said (brought (desk_of input) d.1) (never_empty (desk_of input) d.1) z.slots z.room o room (parsed l) s)
