-- Document 01, "The desk program": its session, from the text typed to the text replied, and lines at each limit, computed.
use Rattle.std.specs.Prelude.{◌≡◌, List, [], ◌∷◌, ◌++◌, ℕ, replicate}
use Prim.Native.String.{String}
use Rattle.desk_text.specs.Letters as letter
use Rattle.desk_text.specs.Lines.{Parsed, none, line, parsed}
use Rattle.desk_input.specs.Lines.{lines_of}
use Rattle.desk_demands.specs.Text.{bytes_of, text_of, reply_text}

-- "Input"
unfoldable pub session : List String
session =
    "P 00741"
    ∷ "P 741"
    ∷ "P 00741"
    ∷ "P 4016"
    ∷ "K 7 00741 2 4016 1"
    ∷ "K 9 00741 1"
    ∷ "K 5 741 1"
    ∷ "K 6 00741 1"
    ∷ "K 7 4016 1"
    ∷ "b 00741 1 741 4"
    ∷ "S 4016 1"
    ∷ "B 4016 1"
    ∷ "D 00741 2 4016 1"
    ∷ "K 8 4016 2 4016 1"
    ∷ "W" ∷ []

-- "Output", with request 2: "The last K reply in document 01 becomes `K 4 2`"
unfoldable pub session_replies : List String
session_replies =
    "P 0 1"
    ∷ "P 0 2"
    ∷ "P 9 1"
    ∷ "P 0 3"
    ∷ "K 0 3"
    ∷ "K 0 0"
    ∷ "K 0 1"
    ∷ "K 9 9"
    ∷ "K 10 0"
    ∷ "b 0 2 9 5"
    ∷ "S 0 7"
    ∷ "B 0 0"
    ∷ "D 0 7"
    ∷ "K 4 2"
    ∷ "W 0 34 4B495400010003053030373431033734310434303136000200090101010005010201" ∷ []

-- [14.20] at a desk with room for what the session takes: four parts, six nodes, two places and 34 bytes. Proof: proofs/Session, `session_replied`
abbrev pub SessionReplied : Type 0
SessionReplied = reply_text 4 6 2 34 (text_of session) ≡ text_of session_replies

-- [14.20] request 3: small letters are characters, and never folded. Proof: proofs/Session, `letters_replied`
abbrev pub LettersReplied : Type 0
LettersReplied =
    reply_text 2 1 1 1 (text_of ("P 74ls00" ∷ "P 74LS00" ∷ "P 74ls00" ∷ "P 74Ls00" ∷ "F 74LS00 1" ∷ []))
    ≡ text_of ("P 0 1" ∷ "P 0 2" ∷ "P 9 1" ∷ "P 12 1" ∷ "F 11 0" ∷ [])

-- [14.20] request 6: a torn label left a hyphen at the end. Proof: proofs/Session, `torn_replied`
abbrev pub TornReplied : Type 0
TornReplied =
    reply_text 2 1 1 1 (text_of ("P CD4016-" ∷ "P CD4016" ∷ "P CD4016-" ∷ "F CD4016- 1" ∷ []))
    ≡ text_of ("P 16 0" ∷ "P 0 1" ∷ "P 16 0" ∷ "F 11 0" ∷ [])

-- [14.20] request 14: an empty list is no kit, and a tag of 0 comes first. Proof: proofs/Session, `empty_replied`
abbrev pub EmptyReplied : Type 0
EmptyReplied =
    reply_text 1 2 1 1 (text_of ("K 5" ∷ "K 0" ∷ "P A" ∷ "K 5 A 1" ∷ "K 5" ∷ "F" ∷ "b" ∷ []))
    ≡ text_of ("K 19 0" ∷ "K 8 0" ∷ "P 0 1" ∷ "K 0 1" ∷ "K 19 0" ∷ "F 11 0" ∷ "b 0 0" ∷ [])

-- a line typed, taken apart
abbrev pub line_typed : String → Parsed
line_typed l = parsed (bytes_of l)

-- the line that registers a number of n zeros: n + 2 bytes
abbrev pub long_line : ℕ → List ℕ
long_line n = bytes_of "P " ++ replicate n 0x30

-- [14.20] Proof: proofs/Session, `line_cases`
abbrev pub LineCases : Type 0
LineCases =
    -- "A line is at most 512 bytes before its line feed"
    (parsed (long_line 510) ≡ line letter.registers 0 (replicate 510 0x30 ∷ []))
    × (parsed (long_line 511) ≡ none)
    -- "Tags and quantities are one to five digits, no leading zero unless just 0, at most 65,535"
    × (line_typed "K 65535" ≡ line letter.inserts 65535 [])
    × (line_typed "K 65536" ≡ none)
    × (line_typed "K 0" ≡ line letter.inserts 0 [])
    × (line_typed "K 00" ≡ none)
    × (line_typed "K 100000" ≡ none)
    × (line_typed "F A 65535" ≡ line letter.finds 0 (bytes_of "A" ∷ bytes_of "65535" ∷ []))
    × (line_typed "F A 65536" ≡ none)
    × (line_typed "F A 01" ≡ none)
    -- "A list may have no pairs"
    × (line_typed "F" ≡ line letter.finds 0 [])
    -- "an empty or overlong line, an empty field, too few or too many fields"
    × (line_typed "" ≡ none)
    × (line_typed " " ≡ none)
    × (line_typed " P A" ≡ none)
    × (line_typed "P  A" ≡ none)
    × (line_typed "P A " ≡ none)
    × (line_typed "P" ≡ none)
    × (line_typed "P A B" ≡ none)
    × (line_typed "W A" ≡ none)
    × (line_typed "F A" ≡ none)
    × (line_typed "p A" ≡ none)
    -- nothing is trimmed: a carriage return before the line feed is one more byte of the last field
    × (line_typed "P A\r" ≡ line letter.registers 0 (bytes_of "A\r" ∷ []))
    × (line_typed "W\r" ≡ none)
    -- "the last may lack one"
    × (lines_of (bytes_of "W\n\nW") ≡ bytes_of "W" ∷ [] ∷ bytes_of "W" ∷ [])
    × (lines_of (bytes_of "W\n\nW\n") ≡ bytes_of "W" ∷ [] ∷ bytes_of "W" ∷ [])
