-- Document 01's short cases, request 1's and the desk's worked example, computed.
use mathlib.Core.Path.{refl}
use Rattle.cases.specs.ShortCases.{insert_rows, holding, holding_empty, listed_of, listed_by, asked_almost, struck, ShortCases, AlmostCases}
use Rattle.cases.specs.ShortCases.{entries, later, desk, replies, DeskExample}
use Rattle.cases.proofs.Opened.{opened}

pub short_cases : ShortCases
unfolding opened insert_rows holding holding_empty listed_of listed_by struck
short_cases = (refl, refl, refl, refl, refl, refl, refl, refl, refl, refl)

pub almost_cases : AlmostCases
unfolding opened insert_rows holding asked_almost
almost_cases = (refl, refl, refl, refl, refl)

pub desk_example : DeskExample
unfolding opened entries later desk replies
desk_example = (refl, refl, refl, refl, refl, refl, refl)
