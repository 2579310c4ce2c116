mod MaskLists
mod MaskPlaces
mod Entries
