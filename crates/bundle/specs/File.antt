-- A file of a bundle, as plain data.
use Rattle.bundle.specs.Entry.{Entry}
use Rattle.bundle.specs.declared.entry.FileEntry.{FileEntry}

-- the entry that it borrows
abbrev pub file_of : FileEntry → Entry
file_of f = record { path = f.path.now; text = f.text.now }
