-- Document 01's session at the desk, and lines at each limit, computed.
use mathlib.Core.Path.{refl}
use mathlib.Core.Bool.{Bool, true}
use Rattle.ground.specs.Lists.{allb, anyb, every}
use Rattle.cases.proofs.Opened.{opened}
use Rattle.desk_text.specs.Parted.{in_front, parted, parted_from}
use Rattle.desk_text.specs.Amounts.{is_digit, spelt, amount_of, leading_zero, small, good_amount}
use Rattle.desk_text.specs.Lines.{filled, good_pairs, line_if, exactly, pairs, amount_and_pairs, behind_letter, lettered, parsed}
use Rattle.desk_replies.specs.Replies.{digits, decimal, hex_digit, hex_of, tags_text, reply_head, reply_line}
use Rattle.desk_input.specs.Lines.{all_but_last, last_of, ended, unfinished, last_line, lines_of}
use Rattle.desk_lists.specs.Typed.{in_front_of, looked_up}
use Rattle.desk_lines.specs.Sizes.{empty_desk}
use Rattle.desk_lines.specs.Desk.{called, shown, sheet_text, register_line, write_line, with_list, call_of, asked, ask_line, at_desk}
use Rattle.desk_demands.specs.Text.{bytes_of, text_of, replies_to, reply_text}
use Rattle.desk_demands.specs.Session.{session, session_replies, SessionReplied, LettersReplied, TornReplied, EmptyReplied, LineCases}

-- opens every definition that taking a line apart uses
unfoldable line_opened : Bool
unfolding allb anyb every in_front parted parted_from is_digit spelt amount_of leading_zero small good_amount filled good_pairs line_if exactly pairs
    amount_and_pairs behind_letter lettered parsed all_but_last last_of ended unfinished last_line lines_of bytes_of text_of
line_opened = true

-- and every definition that answering it uses
unfoldable reply_opened : Bool
unfolding opened line_opened digits decimal hex_digit hex_of tags_text reply_head reply_line in_front_of looked_up empty_desk called shown sheet_text
    register_line write_line with_list call_of asked ask_line at_desk replies_to reply_text session session_replies
reply_opened = true

pub session_replied : SessionReplied
unfolding reply_opened
session_replied = refl

pub letters_replied : LettersReplied
unfolding reply_opened
letters_replied = refl

pub torn_replied : TornReplied
unfolding reply_opened
torn_replied = refl

pub empty_replied : EmptyReplied
unfolding reply_opened
empty_replied = refl

pub line_cases : LineCases
unfolding line_opened
line_cases = (
  refl,
  refl,
  refl,
  refl,
  refl,
  refl,
  refl,
  refl,
  refl,
  refl,
  refl,
  refl,
  refl,
  refl,
  refl,
  refl,
  refl,
  refl,
  refl,
  refl,
  refl,
  refl,
  refl,
  refl,
  refl,
)
