-- Each part of a path answers by its row.
use Rattle.std.specs.Prelude.{codes}
use Rattle.just_value.specs.Paths.{directory, extension, file_name, file_stem, stemmed, lacking, stem_fault}
use Rattle.evaluate_functions.proofs.paths.path_answer.Goals as goal

pub returns-in-Extension : goal.returns-in-Extension
returns-in-Extension c =
    rw c.in-Extension.is (c.part_value.ensures (extension c.args.path.now) (lacking (codes "extension") c.args.path.now) c.extension.ensures.found c.extension.ensures.refused)

pub returns-in-FileName : goal.returns-in-FileName
returns-in-FileName c =
    rw c.in-FileName.is (c.part_value-in-FileName.ensures (file_name c.args.path.now) (lacking (codes "file name") c.args.path.now) c.file_name.ensures.found c.file_name.ensures.refused)

pub returns-in-FileStem : goal.returns-in-FileStem
returns-in-FileStem c =
    rw c.in-FileStem.is (c.part_value-in-FileStem.ensures (file_stem c.args.path.now) (lacking (codes "file stem") c.args.path.now) c.file_stem.ensures.found c.file_stem.ensures.refused)

pub returns-in-ParentDirectory : goal.returns-in-ParentDirectory
returns-in-ParentDirectory c =
    rw c.in-ParentDirectory.is
    (c.part_value-in-ParentDirectory.ensures (directory c.args.path.now) (lacking (codes "parent directory") c.args.path.now) c.parent_directory.ensures.found c.parent_directory.ensures.refused)

pub returns-in-WithoutExtension : goal.returns-in-WithoutExtension
returns-in-WithoutExtension c =
    rw c.in-WithoutExtension.is (c.part_value-in-WithoutExtension.ensures (stemmed c.args.path.now) (stem_fault c.args.path.now) c.without_extension.ensures.found c.without_extension.ensures.refused)
