use Rattle.std.proofs.Common.{◌≡◌, drop}
use Rattle.mq_io.specs.FileList.{file_list, file_of}
use Rattle.mq_io.proofs.shelves.find_file.Given as goal

abbrev pub invariant-loop-file_name : goal.invariant-loop-file_name
invariant-loop-file_name l = file_of (file_list (drop l.file_name-index l.files)) l.name ≡ file_of (file_list l.files) l.name
