-- `windows::next_window` meets its contract: the sample at the tail was in the window, and without it the window is still the start of the shortest run.
-- Assumes nothing.
use Rattle.windows.proofs.Sliding.{tail_fits, bytes_fit, slides_shrunk}
use Rattle.windows.proofs.next_window.Goals as goal

pub overflow_sub-rest : goal.overflow_sub-rest
overflow_sub-rest c = tail_fits _ _ _ c.requires.1.some_scale _ c.requires.0 c.requires.2

pub overflow_sub-rest-2 : goal.overflow_sub-rest-2
overflow_sub-rest-2 c = bytes_fit _ _ _ c.requires.1.some_scale _ c.requires.0 c.requires.2 _ c.size_of.ensures

pub extended-requires : goal.extended-requires
extended-requires c = (slides_shrunk _ _ _ c.requires.1.some_scale _ c.requires.0 c.requires.2 _ _ _ c.run_pass.ensures c.run_ready.ensures c.size_of.ensures, c.requires.1)
