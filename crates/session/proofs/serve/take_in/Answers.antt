use Rattle.std.proofs.Common.{◌+◌, refl, ap, ◌∙◌, arith}
use Rattle.std.proofs.lemmas.List.{take_rest}
use Rattle.frames.specs.Frames.{frame_in}
use Rattle.frames.specs.Hex.{bytes_of}
use Rattle.session.specs.Sessions.{session_in}
use Rattle.session.proofs.Serving.{carries_none, carries_bytes, carries_line}
use Rattle.session.proofs.serve.take_in.Goals as goal

pub loop-used-init : goal.loop-used-init
loop-used-init g c = record {
  carries = carries_none (session_in g.M.CellMemory.cells c.args.slot.now) c.args.held.now;
  used = omega arith;
  within = omega arith;
  some = λ e. refl;
  there = c.requires.there;
}

pub loop-used-preserved-then-byte-eq-LINE_FEED : goal.loop-used-preserved-then-byte-eq-LINE_FEED
loop-used-preserved-then-byte-eq-LINE_FEED g c = record {
  carries =
      carries_line (session_in g.M.CellMemory.cells c.args.slot.now) (session_in g.M.CellMemory.cells c.loop-used.slot) _ c.args.held.now c.loop-used.held _ c.args.bytes.now c.loop-used.out _ c.loop-used.used _ c.loop-used.end _ _
      c.loop-used.invariant.carries c.loop-used-test.true refl c.if-byte-eq-LINE_FEED.true (c.parse.ensures ∙ ap (λ z. frame_in (bytes_of z)) c.as_slice.ensures) c.reply-end.ensures.written c.new.ensures;
  used = omega arith;
  within = c.reply-end.ensures.written.put.within;
  some = λ e. absurd (omega arith);
  there = c.reply-end.ensures.there;
}

pub loop-used-preserved : goal.loop-used-preserved
loop-used-preserved g c = record {
  carries =
      carries_bytes (session_in g.M.CellMemory.cells c.args.slot.now) (session_in g.M.CellMemory.cells c.loop-used.slot) c.args.held.now c.loop-used.held _ c.args.bytes.now _ _ c.loop-used.used _ c.hold-used.result
      c.loop-used.invariant.carries c.loop-used-test.true refl c.if-byte-eq-LINE_FEED.false (take_rest c.args.bytes.now (c.loop-used.used + 1)) c.hold-used.ensures.free c.hold-used.ensures.within c.hold-used.ensures.held;
  used = omega (arith, c.hold-used.ensures.within);
  within = c.loop-used.invariant.within;
  some = λ e. absurd (omega arith);
  there = c.loop-used.invariant.there;
}
