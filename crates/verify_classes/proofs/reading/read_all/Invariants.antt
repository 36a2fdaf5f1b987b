use Rattle.std.proofs.Common.{◌≡◌, map, take}
use Rattle.std.specs.Prelude.{string_bytes}
use Rattle.verify_classes.specs.Reading.{AreRead}
use Rattle.verify_classes.proofs.reading.read_all.Given as goal

abbrev pub invariant-loop-name : goal.invariant-loop-name
invariant-loop-name g l = record {
  read : AreRead (g.F.Files.held l.initial.files) (map string_bytes (take l.name-index l.names)) l.classes.items;
  no_fault : g.F.Files.read_faults l.files ≡ g.F.Files.read_faults l.initial.files;
  held : g.F.Files.held l.files ≡ g.F.Files.held l.initial.files;
  puts : g.F.Files.put_faults l.files ≡ g.F.Files.put_faults l.initial.files;
}
