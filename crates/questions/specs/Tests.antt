-- Inner: no promise of the house rests on what stands here; the questions' impls cite it.
-- The rows that pass each walk are those of the kits that its question is about.
use mathlib.Core.Path.{sym}
use Rattle.kits.specs.Kits.{most_place, units}
use Rattle.kits.specs.Inner.{quantities}
use Rattle.kits.proofs.Good.{good_lines_lem}
use Rattle.kits.proofs.Units.{units_rise, row_rises}
use Rattle.kits.proofs.Along.{quantities_count, fits_along_lem, covers_along_lem}
use Rattle.nodes.proofs.Units.{listed_good}
use Rattle.questions.specs.Questions.{is_within, is_containing}
use Rattle.questions.specs.Inner.{TestsRows, fits, covers}

pub within_tests : TestsRows is_within (λ bin. fits (quantities bin))
unfolding is_within
within_tests = record {
  alike = λ N bin S g k m.
      sym (fits_along_lem (quantities bin) (units bin) k.row (quantities_count bin g) (row_rises (listed_good S k m)));
}

pub containing_tests : TestsRows is_containing covers
unfolding is_containing
containing_tests = record {
  alike = λ N list S g k m.
      sym (covers_along_lem (units_rise (good_lines_lem most_place list g)) (row_rises (listed_good S k m)));
}
