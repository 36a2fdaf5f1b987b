use Rattle.std.proofs.Common.{◌≡◌, ◌≤◌, map, take}
use Rattle.std.specs.Prelude.{string_bytes}
use Rattle.class_answers.specs.Telling.{stream}
use Rattle.read_class.specs.Reading.{Told}
use Rattle.read_class.proofs.reading.tell_each.Given as goal

abbrev pub invariant-loop-name : goal.invariant-loop-name
invariant-loop-name g l = record {
  told : Told (g.F.Files.held l.initial.files) (map string_bytes (take l.name-index l.names))
      (g.F.Files.read_faults l.initial.files) (g.F.Files.read_faults l.files)
      (stream (g.O.Sink.taken l.initial.out) (g.O.Sink.faults l.initial.out))
      (stream (g.O.Sink.taken l.out) (g.O.Sink.faults l.out))
      (stream (g.E.Sink.taken l.initial.err) (g.E.Sink.faults l.initial.err))
      (stream (g.E.Sink.taken l.err) (g.E.Sink.faults l.err)) l.status;
  held : g.F.Files.held l.files ≡ g.F.Files.held l.initial.files;
  puts : g.F.Files.put_faults l.files ≡ g.F.Files.put_faults l.initial.files;
  out_later : g.O.Sink.faults l.initial.out ≤ g.O.Sink.faults l.out;
  err_later : g.E.Sink.faults l.initial.err ≤ g.E.Sink.faults l.err;
}
