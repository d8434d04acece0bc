-- Times as a caller in another language gives them: numbers.
use Rattle.std.specs.Prelude.{ℕ}
use Rattle.edits.specs.declared.MediaTime.{MediaTime}
use Rattle.edits.specs.declared.MovieTime.{MovieTime}

-- a number that a host gives as a time of the media, or of the movie
abbrev pub media : ℕ → MediaTime
media t = record { 0 = t }

abbrev pub movie : ℕ → MovieTime
movie t = record { 0 = t }
