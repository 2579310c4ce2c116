-- What reading is, both ways: of schedules and their files, and of faults and their causes.
use Rattle.schedule.proofs.CausesGiveFault.{causes_give_fault}
use Rattle.schedule.proofs.FilesSeen.{reads_only, faults_have_cause}
use Rattle.schedule.proofs.WholeFiles.{reads_back}
use Rattle.schedule.proofs.reader.Reader.new.Goals as goal

pub returns-clause-back : goal.returns-clause-back
returns-clause-back c = reads_back

pub returns-clause-only : goal.returns-clause-only
returns-clause-only c = reads_only

pub returns-clause-faults : goal.returns-clause-faults
returns-clause-faults c = faults_have_cause

pub returns-clause-causes : goal.returns-clause-causes
returns-clause-causes c = causes_give_fault
