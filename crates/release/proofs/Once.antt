-- Any two outcomes that the host's report permits for one input are equal. Assumes nothing.
use mathlib.Core.Path.{◌≡◌, sym, ◌∙◌}
use mathlib.Core.List.{List}
use Prim.Native.Nat.{ℕ}
use Rattle.release.specs.Report.{HostedReport}

pub one_report : {answers report : List ℕ} {k l : ℕ} {r s : List ℕ} → HostedReport answers report k r → HostedReport answers report l s → (k ≡ l) × (r ≡ s)
one_report p q = (p.number_is ∙ sym q.number_is, p.report_is ∙ sym q.report_is)
