-- The error of frames for that of a file.
use Rattle.jvm_class_formats.specs.declared.errors.ReadErr.{ReadErr}
use Rattle.jvm_class_formats.specs.declared.errors.ReadErr.TheVariants as read_err
use Rattle.jvm_frames.specs.declared.errors.FrameErr.{FrameErr}
use Rattle.jvm_frames.specs.declared.errors.FrameErr.TheVariants.{Bad, NoMemory}

abbrev pub frame_err : ReadErr → FrameErr
frame_err (read_err.BadBytes at) = Bad at
frame_err read_err.NoMemory = NoMemory
