mod EmptyLists
mod EmptyQuiet
mod LintedTexts
mod NoErrors
mod SoundFiles
mod Told
