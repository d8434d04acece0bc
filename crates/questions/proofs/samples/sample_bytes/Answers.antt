-- `questions::samples::sample_bytes` meets its contract: the part of the file is the one that the sample's answer gives.
-- Assumes nothing.
use Rattle.questions.proofs.Found.{found_in_file, found_part, refused_part}
use Rattle.questions.proofs.samples.sample_bytes.Goals as goal

pub part_of-requires : goal.part_of-requires
part_of-requires c = found_in_file _ _ _ _ _ _ c.whole.ensures c.sample_by_number-answer.ensures c.in-Ok.is

pub returns-in-Ok : goal.returns-in-Ok
returns-in-Ok c = found_part _ _ _ _ _ _ _ c.whole.ensures c.sample_by_number-answer.ensures c.in-Ok.is c.part_of.ensures

pub returns-in-Err : goal.returns-in-Err
returns-in-Err c = refused_part _ _ _ _ _ _ _ c.whole.ensures c.sample_by_number-answer.ensures c.in-Err.is c.part_of-in-Err.ensures
