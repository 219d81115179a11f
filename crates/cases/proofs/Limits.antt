-- The limits, computed.
use mathlib.Core.Path.{refl}
use Rattle.cases.specs.Limits.{registered_alone, bytes_with, five_parts, path_from, path_answer, list_answer, rising_lines, check_answer}
use Rattle.cases.specs.Limits.{two_kits, words_after, with_numbers, long_kit, read_in, short_number, short_numbers, sheet_with, wide_record}
use Rattle.cases.specs.Limits.{NumberLimits, LengthLimits, PathLimits, ListLimits, LineLimits, RoomLimits, OrderOfRefusals, NodeWords}
use Rattle.cases.specs.Limits.{CountLimits, SheetLimits, VersionLimits, Limits}
use Rattle.cases.proofs.Opened.{opened}

number_limits : NumberLimits
unfolding opened registered_alone bytes_with
number_limits = (refl, refl, refl, refl, refl, refl, refl)

length_limits : LengthLimits
unfolding opened
length_limits = (refl, refl, refl, refl, refl, refl, refl, refl, refl, refl)

path_limits : PathLimits
unfolding opened five_parts path_from path_answer
path_limits = (refl, refl, refl, refl)

list_limits : ListLimits
unfolding opened five_parts list_answer
list_limits = (refl, refl, refl, refl)

line_limits : LineLimits
unfolding opened rising_lines check_answer
line_limits = (refl, refl, refl, refl, refl, refl, refl, refl)

room_limits : RoomLimits
unfolding opened five_parts two_kits
room_limits = (refl, refl, refl, refl, refl, refl)

order_of_refusals : OrderOfRefusals
unfolding opened five_parts two_kits
order_of_refusals =
    (refl, refl, refl, refl, refl, refl, refl, refl, refl, refl, refl, refl, refl, refl, refl, refl, refl, refl, refl, refl, refl, refl, refl, refl, refl)

node_words : NodeWords
unfolding opened words_after
node_words = (refl, refl, refl)

count_limits : CountLimits
unfolding opened five_parts with_numbers long_kit
count_limits = (refl, refl, refl)

sheet_limits : SheetLimits
unfolding opened read_in
sheet_limits = (refl, refl, refl, refl, refl, refl, refl, refl, refl, refl, refl, refl)

version_limits : VersionLimits
unfolding opened read_in short_number short_numbers sheet_with wide_record
version_limits = (refl, refl, refl, refl, refl, refl, refl, refl, refl, refl)

pub limits : Limits
limits = (
  number_limits,
  length_limits,
  path_limits,
  list_limits,
  line_limits,
  room_limits,
  order_of_refusals,
  node_words,
  count_limits,
  sheet_limits,
  version_limits,
)
