-- Every definition that the calls stand on, opened at once, so that an example can be computed: a test says `unfolding opened` and `refl`.
use mathlib.Core.Bool.{Bool, true}
use Rattle.ground.specs.Lists.{allb, anyb, every, keep, distinct, concat, put_by, order_by, eq_list, from, first_or}
use Rattle.ground.specs.Laid.{laid}
use Rattle.ground.specs.Calls.{decide, answer, leaves, memory, runs, logs, set_down, set_both}
use Rattle.register.specs.Number.{good_byte, good_number, punctuation_at_end}
use Rattle.register.specs.Register.{register_length, slot_of, slot_at, number_in, slot_good, unused_at, used_at, number_at, parts_of, used_holds}
use Rattle.register.specs.Register.{used_first, unused_zero, none_twice, register_sound, place_from, place_in, register_of}
use Rattle.register.specs.Calls.{lent_register, number_refusals, registering, looking_up, showing}
use Rattle.makers.specs.Makers.{makers_length, zero_or_good, beyond_zero, makers_sound}
use Rattle.makers.specs.Calls.{beside_lengths, lent_beside, place_refusals, zeroing_makers, setting_maker, clearing_maker, showing_label, is_makers, label_from, label_size}
use Rattle.makers.specs.Calls.{plan_of_maker}
use Rattle.kits.specs.Kits.{line_value, line_faults, lines_faults, list_faults, units, count, no_more, includes, before, lines_from, list_of}
use Rattle.kits.specs.Kits.{case_test, good_list, begins}
use Rattle.nodes.specs.Nodes.{nodes_length, nodes_of, others_of, zero_word, is_free, is_used, free_nodes, used_nodes, tagged, path, row_of}
use Rattle.nodes.specs.Nodes.{chain, children, upward, is_under, tags_under}
use Rattle.nodes.specs.Sound.{root_good, parent_good, depth_good, label_good, few_equal, links_inside, child_good, next_good, on_chain}
use Rattle.nodes.specs.Sound.{end_tagged, tags_differ, tally_good, used_others, nodes_sound}
use Rattle.nodes.specs.Held.{tag_in, tags_of, kit_at, held, some_unit, listed, first_tag, beginnings, add_new, all_beginnings, begins_with}
use Rattle.nodes.specs.Held.{count_beginning}
use Rattle.index_links.specs.Links.{has_label, child_with, last_below, link_to, link, unlink, node_of, recount}
use Rattle.index_insert.specs.Enter.{lowest_free, enter_below, enter, lacks, enter_all}
use Rattle.index_delete.specs.Strike.{prune, strike_at, strike}
use Rattle.index.specs.Index.{entry_refusals, missing_refusals}
use Rattle.questions.specs.Questions.{is_within, is_containing, fitting, all_of, any_of}
use Rattle.shortfalls.specs.Shortfalls.{sum_over, lacking, shortfall, short_of, is_almost, shorts_of}
use Rattle.pages.specs.Pages.{never_falls, is_place, few_in, good_units, good_bookmark, row_shown, comes_after, following, moved_on, turn_page}
use Rattle.sheet.specs.Bytes.{in_bytes, value_from}
use Rattle.sheet.specs.Sheet.{version, encode_as, encode, number_item, number_items, line_items, record_item, record_items}
use Rattle.sheet.specs.Reading.{onward, one, bytes, any_two, is_version, good_part_count, number_size, new_number, numbers, record_size}
use Rattle.sheet.specs.Reading.{lines_read, list_in, kit_in, has_tag, follows, new_kit, unless, records, front, run_of, whole, decode}
use Rattle.sheet.specs.Reading.{is_fault, offset, said, salvaged, salvage, rescued}
use Rattle.sheet.specs.Calls.{room_refusals, sheet_refusals, salvage_refusals, report_of}
use Rattle.sheet_read.specs.Filling.{filling}
use Rattle.card.specs.Card.{named_item, named_items, encode_card, number_first, place_first, named, placed, card_of, list_on, units_said}
use Rattle.card.specs.Reading.{is_card_version, tag_given, any_count, named_size, named_in, rises_over, new_line, lines_said, the_end, decode_card, said_card}
use Rattle.card.specs.Calls.{unknown_refusals, card_refusals}
use Rattle.tables.specs.Lent.{lengths, lent_both, lent_list}
use Rattle.catalogue.specs.Calls.{plan_of, inserting, deleting, all_kits, almost_kits, any_kit, writing, emptying, finding, reading, counting, turning}
use Rattle.catalogue.specs.Calls.{reading_card, salvaging, writing_card}
use Rattle.demands.specs.Model.{begun, log, run, tables_of}
use Rattle.demands.specs.Shop.{plan_of_shop, memory_of}

unfoldable pub opened : Bool
unfolding allb anyb every keep distinct concat put_by order_by eq_list from first_or laid decide answer leaves memory run log runs logs set_down set_both good_byte good_number
    register_length slot_of slot_at number_in slot_good unused_at used_at number_at parts_of used_holds used_first unused_zero none_twice
    register_sound place_from place_in register_of lent_register punctuation_at_end number_refusals registering looking_up showing line_value line_faults
    lines_faults list_faults units count no_more includes before lines_from list_of case_test good_list begins nodes_length nodes_of others_of zero_word
    is_free is_used free_nodes used_nodes tagged path row_of chain children upward is_under tags_under root_good parent_good depth_good label_good few_equal links_inside
    child_good next_good on_chain end_tagged tags_differ tally_good used_others nodes_sound tag_in tags_of kit_at held some_unit listed first_tag beginnings
    add_new all_beginnings begins_with count_beginning has_label child_with last_below link_to link unlink node_of lowest_free enter_below enter recount lacks
    enter_all prune strike_at strike
    entry_refusals missing_refusals is_within is_containing fitting all_of any_of sum_over lacking shortfall short_of is_almost shorts_of never_falls is_place few_in
    good_units good_bookmark row_shown comes_after following moved_on turn_page turning in_bytes
    value_from version encode_as encode number_item number_items line_items record_item record_items onward one bytes any_two is_version good_part_count number_size
    new_number numbers record_size lines_read list_in kit_in has_tag follows new_kit unless records front run_of whole decode is_fault offset
    said salvaged salvage rescued room_refusals sheet_refusals salvage_refusals report_of salvaging
    named_item named_items encode_card number_first place_first named placed card_of list_on units_said is_card_version tag_given any_count named_size named_in
    rises_over new_line lines_said the_end decode_card said_card unknown_refusals card_refusals writing_card reading_card
    filling lengths lent_both lent_list plan_of inserting deleting all_kits almost_kits any_kit writing
    emptying finding reading counting begun tables_of zero_or_good beyond_zero makers_length makers_sound
    beside_lengths lent_beside place_refusals zeroing_makers setting_maker clearing_maker showing_label is_makers label_from label_size plan_of_maker plan_of_shop memory_of
opened = true
