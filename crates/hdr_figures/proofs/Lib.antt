mod AddedClasses
mod Adding
mod ClassRanks
mod Parts
mod TagParts
