-- The cases of requests 3, 4, 5, 6, 7, 8, 12 and 14, computed.
use mathlib.Core.Path.{refl}
use Rattle.demands.specs.Before.{good_byte_before, good_number_before, new_number_before, numbers_before, front_before, decode_before}
use Rattle.demands.specs.Pages.{pages_among}
use Rattle.cases.specs.ShortCases.{insert_rows, holding, holding_empty, listed_of}
use Rattle.cases.specs.Limits.{five_parts}
use Rattle.cases.specs.Requests.{page_tables, behind_row, mark_answer, PageCases}
use Rattle.cases.specs.Requests.{BeforeCases, torn_tables, TornCases, counted, counted_less, CountCases}
use Rattle.cases.specs.Requests.{from_before, empty_gone, read_before, EmptyCases, report_with, written_after, RescueCases}
use Rattle.cases.specs.Requests.{parts_with, sent_from, sent_to, read_there, card_answer, CardCases}
use Rattle.cases.specs.Requests.{labelled, maker_answer, labels, MakerCases}
use Rattle.cases.proofs.Opened.{opened}

pub before_cases : BeforeCases
unfolding opened good_byte_before good_number_before new_number_before numbers_before front_before decode_before
before_cases = (refl, refl, refl)

pub page_cases : PageCases
unfolding opened pages_among insert_rows holding five_parts page_tables behind_row mark_answer
page_cases = (refl, refl, refl, refl, refl, refl, refl, refl, refl, refl, refl, refl, refl, refl)

pub torn_cases : TornCases
unfolding opened torn_tables
torn_cases = (refl, refl, refl, refl, refl, refl)

pub count_cases : CountCases
unfolding opened insert_rows holding counted counted_less five_parts
count_cases = (refl, refl, refl, refl, refl, refl, refl, refl)

pub empty_cases : EmptyCases
unfolding opened insert_rows holding holding_empty listed_of from_before empty_gone read_before
empty_cases = (refl, refl, refl, refl, refl, refl, refl, refl, refl, refl, refl, refl, refl, refl, refl, refl, refl, refl)

pub rescue_cases : RescueCases
unfolding opened insert_rows holding report_with written_after
rescue_cases = (refl, refl, refl, refl, refl, refl, refl, refl, refl, refl, refl, refl, refl)

pub card_cases : CardCases
unfolding opened insert_rows holding five_parts from_before parts_with sent_from sent_to read_there card_answer
card_cases = (refl, refl, refl, refl, refl, refl, refl, refl, refl, refl, refl, refl, refl, refl, refl, refl, refl)

pub maker_cases : MakerCases
unfolding opened labelled maker_answer labels
maker_cases =
    (refl, refl, refl, refl, refl, refl, refl, refl, refl, refl, refl, refl, refl, refl, refl, refl, refl, refl, refl)
