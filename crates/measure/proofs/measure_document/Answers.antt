-- `measure::measure_document` meets its contract. Assumes nothing.
use Rattle.measure.proofs.Measures.{document-whole}
use Rattle.measure.proofs.measure_document.Goals as goal

pub returns : goal.returns
returns c = search document-whole
