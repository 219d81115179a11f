-- Demand 1 from any list of calls: every reply is what the accepted calls and the catalogue's size say.
use mathlib.Core.Path.{◌≡◌, sym, ap, subst, ◌∙◌}
use mathlib.Core.List.{List, ◌∷◌, ◌++◌, append_assoc, Memᴰ}
use Prim.Native.Nat.{ℕ, ◌+◌, ◌-◌}
use native.Mathlib.Omega.{arith}
use lib.ListN.{length}
use lib.Dec.{ltb, eqb}
use borrow.Author.Tests.{lt-ltb, ltb-true}
use Rattle.ground.specs.Lists.{anyb, order_by}
use Rattle.ground.specs.Calls.{done, decide, answer}
use Rattle.ground.proofs.Laws.{same_cases}
use Rattle.ground.proofs.Calls.{decide_behind}
use Rattle.register.specs.Register.{slot_count}
use Rattle.register.specs.Calls.{lent_register, number_refusals, registering, looking_up, showing}
use Rattle.kits.specs.Kits.{list_faults, units}
use Rattle.nodes.specs.Nodes.{size, free_nodes}
use Rattle.nodes.specs.Held.{Kit, comes_before, put_kit, kits_in_order, tag_in, tags_of, held, all_beginnings}
use Rattle.nodes.proofs.Sorted.{anyb_eqb, eqb_anyb}
use Rattle.nodes.proofs.Listing.{tags_mem, mem_tags}
use Rattle.nodes.proofs.Ordered.{mem_order, order_mem}
use Rattle.nodes.proofs.Held.{kit}
use Rattle.nodes.proofs.Beginnings.{nodes_free}
use Rattle.index_insert.specs.Enter.{lacks}
use Rattle.index.specs.Index.{entry_refusals, missing_refusals}
use Rattle.index_counts.proofs.Needed.{nodes_needed_lem}
use Rattle.questions.specs.Questions.{is_within, is_containing}
use Rattle.sheet.specs.Sheet.{Contents, nodes_needed}
use Rattle.card.specs.Card.{card_of, encode_card, list_on}
use Rattle.card.specs.Reading.{decode_card, said_card}
use Rattle.ground.specs.Tables.{Tables}
use Rattle.tables.specs.Lent.{lengths, lent_list}
use Rattle.tables.proofs.Lent.{lengths_good}
use Rattle.catalogue.specs.Calls.{Call, empty_both, register_part, look_up, show_at, insert_kit, find_kit, delete_kit, any_within, any_containing}
use Rattle.catalogue.specs.Calls.{all_within, all_containing, all_almost, write_sheet, read_sheet, salvage_sheet, plan_of, emptying, inserting, finding}
use Rattle.catalogue.specs.Calls.{count_kits, turn_within, turn_containing, deleting, reading, salvaging, read_card, reading_card, write_card, writing_card}
use Rattle.demands.specs.Model.{more}
use Rattle.demands.specs.Demand1.{not_held, told, ToldExactly}
use Rattle.demands.proofs.Model.{tag_order}
use Rattle.demands.proofs.Brought.{Brought, brought}
use Rattle.demands.proofs.Sizes.{sizes}
use Rattle.demands.proofs.NeverEmpty.{AllListed, never_empty}
use Rattle.demands.proofs.Answers.{behind_tables, down_answer, any_answer, all_answer}
use Rattle.demands.proofs.Almost.{almost_answer}
use Rattle.demands.proofs.Beginning.{count_answer}
use Rattle.demands.proofs.Pages.{page_answer}
use Rattle.demands.proofs.Sheets.{write_answer}
use Rattle.demands.proofs.Counts.{as_many}

module _ {T : Tables} {m : Contents} (b : Brought T m) (all : AllListed T) (slots room : ℕ) (hs : slot_count T.register ≡ slots)
    (hr : size T.nodes ≡ room) where
  abbrev R : List ℕ
  R = T.register

  abbrev N : List ℕ
  N = T.nodes

  -- the register's calls
  ready_lent : decide (lent_register T.register) 0 ≡ done 0
  unfolding lent_register decide
  ready_lent = let f = b.both.ready.fits in let s = b.both.ready.sound in rw (f, s)

  register_told : (n : List ℕ) → answer (plan_of (register_part n) T) ≡ told slots room m (register_part n)
  unfolding answer plan_of registering number_refusals told
  register_told n = let p = b.parts in rw (p, hs) (decide_behind (lent_register R) _ 0 _ ready_lent)

  look_told : (n : List ℕ) → answer (plan_of (look_up n) T) ≡ told slots room m (look_up n)
  unfolding answer plan_of looking_up told
  look_told n = let p = b.parts in rw p (decide_behind (lent_register R) _ 0 _ ready_lent)

  show_told : (p : ℕ) → answer (plan_of (show_at p) T) ≡ told slots room m (show_at p)
  unfolding answer plan_of showing told
  show_told p = let q = b.parts in rw q (decide_behind (lent_register R) _ 0 _ ready_lent)

  -- what is held, in any order
  held_is : held T.nodes ≡ kits_in_order m.kits
  held_is = all ∙ b.kits

  tag_told : (r : List ℕ) → tag_in r (held T.nodes) ≡ tag_in r m.kits
  tag_told r = ap (tag_in r) held_is ∙ tag_order r m.kits b.apart

  borne_told : (t : ℕ) → anyb (eqb t) (tags_of (held T.nodes)) ≡ anyb (eqb t) (tags_of m.kits)
  borne_told t = same_cases (anyb (eqb t) (tags_of (held N))) (anyb (eqb t) (tags_of m.kits))
      (λ h.
      let o = tags_mem t (held N) (anyb_eqb t (tags_of (held N)) h) in
      eqb_anyb t (tags_of m.kits)
      (subst (λ (x : ℕ). Memᴰ x (tags_of m.kits)) o.2
      (mem_tags o.0 m.kits (order_mem comes_before o.0 m.kits (subst (Memᴰ o.0) held_is o.1)))))
      (λ h.
      let o = tags_mem t m.kits (anyb_eqb t (tags_of m.kits) h) in
      eqb_anyb t (tags_of (held N))
      (subst (λ (x : ℕ). Memᴰ x (tags_of (held N))) o.2
      (mem_tags o.0 (held N) (subst (Memᴰ o.0) (sym held_is) (mem_order comes_before o.0 m.kits o.1)))))

  -- the nodes that an insertion takes, and those that are free
  module _ (l : List ℕ) (t : ℕ) where
    grown : nodes_needed (more m l t) ≡ nodes_needed m + lacks T.nodes 0 (units l)
    unfolding order_by
    grown =
        let e : put_kit (kit (units l) t) (held N) ≡ kits_in_order (kit (units l) t ∷ m.kits) = ap (put_kit (kit (units l) t)) held_is in
        omega (
          arith,
          nodes_needed_lem b.both.sound (units l) t,
          ap (λ (ks : List Kit). length (all_beginnings ks)) e,
          as_many
              (kit (units l) t ∷ m.kits),
          ap (λ (ks : List Kit). length (all_beginnings ks)) held_is,
          as_many m.kits,
        )

    free_told : nodes_needed m + length (free_nodes T.nodes) ≡ room
    free_told = omega (arith, nodes_free b.both.sound, ap (λ (ks : List Kit). length (all_beginnings ks)) held_is, as_many m.kits, hr)

    full_told : ltb (length (free_nodes T.nodes)) (lacks T.nodes 0 (units l)) ≡ ltb room (nodes_needed (more m l t))
    full_told = same_cases (ltb (length (free_nodes N)) (lacks N 0 (units l))) (ltb room (nodes_needed (more m l t)))
        (λ h. lt-ltb room (nodes_needed (more m l t))
        (omega (arith, ltb-true (length (free_nodes N)) (lacks N 0 (units l)) h, grown, free_told)))
        (λ h. lt-ltb (length (free_nodes N)) (lacks N 0 (units l))
        (omega (arith, ltb-true room (nodes_needed (more m l t)) h, grown, free_told)))

    too_few : lacks T.nodes 0 (units l) - length (free_nodes T.nodes) ≡ nodes_needed (more m l t) - room
    too_few = omega (arith, grown, free_told)

    taken : lacks T.nodes 0 (units l) ≡ nodes_needed (more m l t) - nodes_needed m
    taken = omega (arith, grown)

    insert_told : answer (plan_of (insert_kit l t) T) ≡ told slots room m (insert_kit l t)
    unfolding answer plan_of inserting entry_refusals told
    insert_told =
        let p = b.parts in
        let e1 = tag_told (units l) in
        let e2 = borne_told t in
        let e3 = full_told in
        let e4 = too_few in
        let e5 = taken in
        rw (p, e1, e2, e3, e4, e5) (behind_tables b _ _)

  -- the calls on a list
  find_told : (l : List ℕ) → answer (plan_of (find_kit l) T) ≡ told slots room m (find_kit l)
  unfolding answer plan_of finding lent_list missing_refusals told
  find_told l = let p = b.parts in let e = tag_told (units l) in rw (p, e, append_assoc) (behind_tables b _ _)

  delete_told : (l : List ℕ) → answer (plan_of (delete_kit l) T) ≡ told slots room m (delete_kit l)
  unfolding answer plan_of deleting lent_list missing_refusals told
  delete_told l = let p = b.parts in let e = tag_told (units l) in rw (p, e, append_assoc) (behind_tables b _ _)

  -- both tables emptied or filled
  sized_lent : decide (lengths T) 0 ≡ done 0
  sized_lent = lengths_good R N b.both.ready.fits b.both.sized

  empty_told : answer (plan_of empty_both T) ≡ told slots room m empty_both
  unfolding answer plan_of emptying told
  empty_told = sized_lent

  read_told : (s : List ℕ) → answer (plan_of (read_sheet s) T) ≡ told slots room m (read_sheet s)
  unfolding answer plan_of reading told
  read_told s = rw (hs, hr) (decide_behind (lengths T) _ 0 _ sized_lent)

  salvage_told : (s : List ℕ) → answer (plan_of (salvage_sheet s) T) ≡ told slots room m (salvage_sheet s)
  unfolding answer plan_of salvaging told
  salvage_told s = rw (hs, hr) (decide_behind (lengths T) _ 0 _ sized_lent)

  -- cards
  write_card_told : (l o : List ℕ) → answer (writing_card l T o) ≡ told slots room m (write_card l o)
  unfolding writing_card lent_list missing_refusals told
  write_card_told l o =
      let p = b.parts in
      let e = tag_told (units l) in
      rw (p, e, append_assoc) (down_answer b (list_faults (length m.parts) l ++ not_held m l) (encode_card (card_of m.parts l (tag_in (units l) m.kits))) o)

  read_card_told : (s : List ℕ) → answer (plan_of (read_card s) T) ≡ told slots room m (read_card s)
  unfolding answer plan_of reading_card entry_refusals told
  read_card_told s =
      let c = said_card (decode_card s) in
      let l = list_on m.parts c in
      let p = b.parts in
      let e1 = tag_told (units l) in
      let e2 = borne_told c.tag in
      let e3 = full_told l c.tag in
      let e4 = too_few l c.tag in
      let e5 = taken l c.tag in
      rw (p, e1, e2, e3, e4, e5) (behind_tables b _ _)

  pub call_told : (c : Call) → answer (plan_of c T) ≡ told slots room m c
  unfolding plan_of told answer
  call_told empty_both = empty_told
  call_told (register_part n) = register_told n
  call_told (look_up n) = look_told n
  call_told (show_at p) = show_told p
  call_told (insert_kit l t) = insert_told l t
  call_told (find_kit l) = find_told l
  call_told (delete_kit l) = delete_told l
  call_told (count_kits l) = count_answer b l
  call_told (any_within l) = any_answer b is_within l
  call_told (any_containing l) = any_answer b is_containing l
  call_told (all_within l o) = all_answer b is_within l o
  call_told (all_containing l o) = all_answer b is_containing l o
  call_told (all_almost d l o) = almost_answer b d l o
  call_told (turn_within l k) = page_answer b is_within l k
  call_told (turn_containing l k) = page_answer b is_containing l k
  call_told (write_sheet o) = write_answer b o
  call_told (read_sheet s) = read_told s
  call_told (salvage_sheet s) = salvage_told s
  call_told (write_card l o) = write_card_told l o
  call_told (read_card s) = read_card_told s

pub told_exactly : ToldExactly
told_exactly a c h = let z = sizes a h in call_told (brought a h) (never_empty a h) a.slots a.room z.slots z.room c
