use Rattle.std.proofs.Common.{ap, slice_get}
use Rattle.span_options.proofs.PlainWords.{faults-plain, named-plain}
use Rattle.span_options.proofs.laws.files_law.Goals as goal

pub returns : goal.returns
returns c = record { faultless = λ words plain fits. ap (λ kinds. slice_get kinds 0) (faults-plain words plain fits); named = named-plain }
