-- Depth and label against the parent's; below the root nothing more is asked, and any other parent must be used.
use Rattle.std.proofs.Common.{arith}
use Rattle.std.proofs.lemmas.Bool.Decides.{nat_tests}
use Rattle.nodes_check.proofs.Answers.{says_at}
use Rattle.nodes_check.proofs.under_ok.Goals as goal

pub returns-then-q-eq0 : goal.returns-then-q-eq0
returns-then-q-eq0 c =
    says_at _ (λ e. record {
      alive = λ h. grind (arith, nat_tests);
      deeper = grind (arith, nat_tests);
      shallow = grind (arith, nat_tests);
      place = grind (arith, nat_tests);
      rising = grind (arith, nat_tests);
    }) (λ e g. grind (arith, nat_tests))

pub returns-else-q-eq0 : goal.returns-else-q-eq0
returns-else-q-eq0 c =
    says_at _ (λ e. record {
      alive = λ h. grind (arith, nat_tests);
      deeper = grind (arith, nat_tests);
      shallow = grind (arith, nat_tests);
      place = grind (arith, nat_tests);
      rising = grind (arith, nat_tests);
    }) (λ e g. let alive = g.alive in grind (arith, nat_tests))

pub returns-else-m-l : goal.returns-else-m-l
returns-else-m-l c = says_at _ (λ e. absurd (grind (arith, nat_tests))) (λ e g. grind (arith, nat_tests))
