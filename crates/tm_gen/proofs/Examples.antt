-- The first records of seed 7, by computation.
use Rattle.std.proofs.Common.{◌≡◌, refl}
use Rattle.tm_gen.specs.Trace.{execute_line, access_line, record_line, state_before}

pub an_execute : record_line 1 0 7 ≡ execute_line 1 6
an_execute = refl

pub a_getattr : record_line 1 1 (state_before 7 1) ≡ access_line 1 2 753
unfolding state_before
a_getattr = refl

pub a_read : record_line 1 4 (state_before 7 4) ≡ access_line 1 0 739
unfolding state_before
a_read = refl

pub a_write : record_line 1 5 (state_before 7 5) ≡ access_line 1 1 195
unfolding state_before
a_write = refl

pub a_second_execute : record_line 1 10 (state_before 7 10) ≡ execute_line 1 7
unfolding state_before
a_second_execute = refl
