-- Four words, each 0.
use Rattle.std.proofs.Common.{arith}
use Rattle.std.proofs.lemmas.Bool.Decides.{nat_tests}
use Rattle.nodes_check.proofs.Answers.{says_at}
use Rattle.nodes_check.proofs.root_ok.Goals as goal

pub returns-then-label_at-eq0 : goal.returns-then-label_at-eq0
returns-then-label_at-eq0 c =
    says_at _ (λ e. record {
      no_parent = grind (arith, nat_tests);
      no_next = grind (arith, nat_tests);
      no_label = grind (arith, nat_tests);
      no_depth = grind (arith, nat_tests);
    }) (λ e g. grind (arith, nat_tests))

pub returns-else-label_at-eq0 : goal.returns-else-label_at-eq0
returns-else-label_at-eq0 c = says_at _ (λ e. absurd (grind (arith, nat_tests))) (λ e g. grind (arith, nat_tests))
