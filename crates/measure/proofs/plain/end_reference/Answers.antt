-- `measure::plain::end_reference` meets its contract. Assumes nothing.
use Rattle.measure.proofs.Measures.{none-referred, referred-one}
use Rattle.measure.proofs.plain.end_reference.Goals as goal

pub returns-then-stop-at : goal.returns-then-stop-at
returns-then-stop-at c = search none-referred

pub returns-then-b-lt193 : goal.returns-then-b-lt193
returns-then-b-lt193 c = search none-referred

pub returns-then-b-eq255 : goal.returns-then-b-eq255
returns-then-b-eq255 c = search none-referred

pub returns-then-b-around : goal.returns-then-b-around
returns-then-b-around c = search referred-one

pub returns : goal.returns
returns c = search none-referred
