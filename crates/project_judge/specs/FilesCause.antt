-- Why files are no project, as why they aren't judged.
use Rattle.project_files.specs.declared.error.FilesError.{FilesError}
use Rattle.project_files.specs.declared.error.FilesError.TheVariants as files
use Rattle.project_judge.specs.declared.error.ProjectError.{ProjectError}
use Rattle.project_judge.specs.declared.error.ProjectError.TheVariants as error

abbrev pub files_cause : FilesError → ProjectError
files_cause (files.Limit which) = error.Limit which
files_cause (files.Unread path why) = error.Unread path why
files_cause (files.Repeated name first second) = error.Repeated name first second
files_cause files.OutOfMemory = error.OutOfMemory
