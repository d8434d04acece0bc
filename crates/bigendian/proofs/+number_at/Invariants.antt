-- `bigendian::number_at` goes as the definition does, one byte less at each call, and the width falls.
use Rattle.bigendian.proofs.+number_at.Given as goal

abbrev pub decreases-number_at : goal.decreases-number_at
decreases-number_at l = l.width
