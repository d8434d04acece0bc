-- What a stretch of a film asks for, between the functions of the questions. This need not be believed: a proof shows that it comes to the
-- definitions of Stretches.
use Rattle.std.specs.Prelude.{ℕ, ◌≡◌, List, Result, Ok}
use Rattle.bigendian.specs.BigEndian.{u32_at}
use Rattle.structure.specs.declared.source.Source.{Source}
use Rattle.places.specs.Places.{IsTrak, part_in}
use Rattle.refusals.specs.Refusals.{code}
use Rattle.refusals.specs.declared.Refusal.{Refusal}
use Rattle.questions.specs.Asked.{track_asked}
use Rattle.questions.specs.declared.Asked.{Asked}
use Rattle.spans.specs.Spans.{Spans, span_said}
use Rattle.spans.specs.declared.Span.{Span}
use Rattle.stretch.specs.Stretches.{span_at}
use Rattle.stretch.specs.declared.Stretched.{Stretched}

-- the refusal before the room is looked at, and where there is none the trak of the track that is asked and the samples of the stretch
pub record SpanAsked (s : List ℕ) (w : Source) (id a b : ℕ) (r : Result Stretched Refusal) : Type 0 where
  pub refusal : code r ≡ span_at s w id a b
  pub trak : (x : Stretched) → r ≡ Ok x → IsTrak s (track_asked s id) x.trak
  pub span : (x : Stretched) → r ≡ Ok x → Spans (track_asked s id) a b x.span

-- the samples by what the question begins with, whatever that is
unfoldable pub span_of_ask : List ℕ → Asked → ℕ → ℕ → Result Span Refusal
span_of_ask s k a b =
    let t = part_in s k.trak.body in
    span_said (part_in t k.trak.parts.stts) (u32_at (part_in t k.trak.parts.stsz) 16) a b
